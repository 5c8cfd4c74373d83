-- Objects (RFC 6551, section 2.1): a container's data is a list of them. `split` reads it, `join` writes it.
use Rattle.std.specs.Prelude.{ℕ, zero, suc, ◌/◌, ◌%◌, Bool, true, false, cond, List, [], ◌∷◌, ◌++◌, length, take, drop, get_or, leb}
use Rattle.std.proofs.Math.Option.{Option, none, some}

-- an object: header byte 0, the type; byte 1, the flags; byte 2, the mode R, A and Prec; and the body, whose length is byte 3
pub record Object : Type 0 where
  pub type : ℕ
  pub flags : ℕ
  pub mode : ℕ
  pub body : List ℕ

-- an object from its header bytes 0 to 2 and its body
abbrev pub object : (type flags mode : ℕ) → List ℕ → Object
object t f m b = record { type = t; flags = f; mode = m; body = b }

-- ---- header bits

-- P, 0x04 of byte 1
abbrev pub bit_p : Object → ℕ
bit_p o = o.flags / 4 % 2

-- C, 0x02 of byte 1
abbrev pub bit_c : Object → ℕ
bit_c o = o.flags / 2 % 2

-- O, 0x01 of byte 1
abbrev pub bit_o : Object → ℕ
bit_o o = o.flags % 2

-- R, 0x80 of byte 2
abbrev pub bit_r : Object → ℕ
bit_r o = o.mode / 128 % 2

-- A, 0x70 of byte 2
abbrev pub field_a : Object → ℕ
field_a o = o.mode / 16 % 8

-- Prec, 0x0F of byte 2
abbrev pub field_prec : Object → ℕ
field_prec o = o.mode % 16

-- ---- from bytes to objects and back

-- an object before those of the rest, if the rest has its objects whole
abbrev pub before : Object → Option (List Object) → Option (List Object)
before o none = none
before o (some os) = some (o ∷ os)

-- objects before those of bytes, if these have theirs whole
abbrev pub behind : List Object → Option (List Object) → Option (List Object)
behind s none = none
behind s (some t) = some (s ++ t)

-- the objects that stand end to end in a run of bytes; none where a header or a body runs past its end. `limit` bounds their number
unfoldable pub split_up_to : (limit : ℕ) → List ℕ → Option (List Object)
split_up_to zero [] = some []
split_up_to zero (t ∷ bs) = none
split_up_to (suc k) [] = some []
split_up_to (suc k) (t ∷ []) = none
split_up_to (suc k) (t ∷ f ∷ []) = none
split_up_to (suc k) (t ∷ f ∷ m ∷ []) = none
split_up_to (suc k) (t ∷ f ∷ m ∷ n ∷ rest) = cond (leb n (length rest)) (before (object t f m (take n rest)) (split_up_to k (drop n rest))) none

-- the objects of a run of bytes, which has no more objects than bytes
unfoldable pub split : List ℕ → Option (List Object)
unfolding split_up_to
split bs = split_up_to (length bs) bs

-- the bytes of an object
abbrev pub bytes_of : Object → List ℕ
bytes_of o = o.type ∷ o.flags ∷ o.mode ∷ length o.body ∷ o.body

-- objects end to end
unfoldable pub join : List Object → List ℕ
join [] = []
join (o ∷ os) = bytes_of o ++ join os

-- a container: byte 0x02, the data length, the data
abbrev pub container : List Object → List ℕ
container os = 2 ∷ length (join os) ∷ join os

-- an object, with those before it in its container
pub record Standing : Type 0 where
  pub earlier : List Object
  pub object : Object

-- each object of a list, with those before it
unfoldable pub standings : (earlier : List Object) → List Object → List Standing
standings es [] = []
standings es (o ∷ os) = record { earlier = es; object = o } ∷ standings (es ++ (o ∷ [])) os

-- ---- what an object is

-- the node metrics: two bytes, then TLVs
pub data Node : Type 0 where
  nsa ne hp : Node

-- the link metrics whose sub-object is one number
pub data Scalar : Type 0 where
  throughput latency etx : Scalar

-- the type of an object, as far as it is known
pub data Kind : Type 0 where
  unknown lql colour : Kind
  node : Node → Kind
  scalar : Scalar → Kind

-- the kinds by type: 1 to 8 are known, 0 and 9 to 255 are not
abbrev pub kinds : List Kind
kinds = unknown ∷ node nsa ∷ node ne ∷ node hp ∷ scalar throughput ∷ scalar latency ∷ lql ∷ scalar etx ∷ colour ∷ []

-- the kind of a type
unfoldable pub kind_of : (type : ℕ) → Kind
kind_of t = get_or kinds t unknown

-- the type of a scalar
abbrev pub type_of : Scalar → ℕ
type_of throughput = 4
type_of latency = 5
type_of etx = 7

-- the kind of an object
abbrev pub kind : Object → Kind
kind o = kind_of o.type

-- known types, and document 01's unknown ones
abbrev pub known : Kind → Bool
known unknown = false
known lql = true
known colour = true
known (node n) = true
known (scalar s) = true

-- what an object is there for
pub data Role : Type 0 where
  constraint recorded aggregated : Role

-- C=1 is a constraint; C=0 a metric, recorded if R=1, aggregated if R=0
abbrev pub role_bits : (c r : ℕ) → Role
role_bits (suc c) r = constraint
role_bits zero (suc r) = recorded
role_bits zero zero = aggregated

-- the role by header bytes 1 and 2
unfoldable pub role_of : (flags mode : ℕ) → Role
role_of f m = role_bits (f / 2 % 2) (m / 128 % 2)

-- the role of an object
abbrev pub role : Object → Role
role o = role_of o.flags o.mode

-- C=1
abbrev pub is_constraint : Role → Bool
is_constraint constraint = true
is_constraint recorded = false
is_constraint aggregated = false

-- a metric with R=1
abbrev pub is_recorded : Role → Bool
is_recorded constraint = false
is_recorded recorded = true
is_recorded aggregated = false

-- a metric with R=0
abbrev pub is_aggregated : Role → Bool
is_aggregated constraint = false
is_aggregated recorded = false
is_aggregated aggregated = true

-- the kind HP
abbrev pub is_hp : Kind → Bool
is_hp unknown = false
is_hp lql = false
is_hp colour = false
is_hp (node nsa) = false
is_hp (node ne) = false
is_hp (node hp) = true
is_hp (scalar s) = false
