-- Reading and writing undo each other.
use Rattle.std.specs.Prelude.{◌≡◌, ℕ, ◌<◌, ◌^◌, true, false, List, [], ◌∷◌, ◌++◌, ◌↔◌, ltb, length}
use Rattle.std.proofs.Math.Option.{some}
use Rattle.model.specs.Number.{number, big_endian, any_of}
use Rattle.model.specs.Object.{Object, split, join, container}
use Rattle.model.specs.Reading.{tlvs_fit, well_formed, reading}
use Rattle.model.specs.Run.{RplOption, join_options, options, run_objects}
use Rattle.model.specs.Pack.{packed}

-- a TLV; its length byte is the value's length
pub record Tlv : Type 0 where
  pub type : ℕ
  pub value : List ℕ

-- TLVs end to end
unfoldable pub join_tlvs : List Tlv → List ℕ
join_tlvs [] = []
join_tlvs (t ∷ ts) = t.type ∷ length t.value ∷ t.value ++ join_tlvs ts

-- every number of a list is a byte
abbrev pub Bytes : List ℕ → Type 0
Bytes bs = any_of (λ b. ltb 255 b) bs ≡ false

-- writing what was read, and reading what was written, gives back the same
pub record RoundTrip : Type 0 where
  pub split_join : (os : List Object) → split (join os) ≡ some os
  pub join_split : (bs : List ℕ) (os : List Object) → split bs ≡ some os → join os ≡ bs
  -- a well-formed container is the container of its objects
  pub container_reading : (bs : List ℕ) (os : List Object) → reading bs ≡ well_formed os → container os ≡ bs
  -- options end to end; objects packed into containers
  pub options_join : (os : List RplOption) → options (join_options os) ≡ some os
  pub join_options : (bs : List ℕ) (os : List RplOption) → options bs ≡ some os → join_options os ≡ bs
  pub packed_objects : (os : List Object) → run_objects (packed os) ≡ some os
  pub number_bytes : (width v : ℕ) → v < 256 ^ width → number (big_endian width v) ≡ v
  pub length_bytes : (width v : ℕ) → length (big_endian width v) ≡ width
  pub bytes_number : (bs : List ℕ) → Bytes bs → big_endian (length bs) (number bs) ≡ bs
  -- bytes fit as TLVs exactly when they are TLVs end to end
  pub tlvs : (bs : List ℕ) → (tlvs_fit bs ≡ true) ↔ ((ts : List Tlv) × (join_tlvs ts ≡ bs))
