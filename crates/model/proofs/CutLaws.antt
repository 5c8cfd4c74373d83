-- The cut against bars 15 to 19.
use mathlib.Core.Path.{◌≡◌, refl, sym, ◌∙◌}
use Prim.Native.Nat.{ℕ}
use mathlib.Core.Bool.{Bool, true, false, cond, not, ◌&&◌, ◌||◌, and-false, true≢false}
use mathlib.Core.List.{List, [], ◌∷◌, ◌++◌, append-nil}
use lib.ListN.{length, take, drop, get_or}
use lib.Dec.{leb, eqb}
use borrow.Author.Tests.{eqb-true}
use Rattle.std.specs.Prelude.{Some, None}
use Rattle.model.specs.declared.Summary.{Summary}
use Rattle.model.specs.declared.Neighbour.{Neighbour}
use Rattle.model.specs.Number.{number, any_of, ◌when◌, first_case, first_of}
use Rattle.model.specs.Object.{Object, bit_c, standings, Kind, unknown, lql, colour, node, scalar, nsa, ne, hp, Scalar, throughput, latency, etx, type_of, known, kind, Role, constraint, recorded, aggregated, role}
use Rattle.model.specs.Table.{row}
use Rattle.model.specs.Reading.{tlvs_up_to, tlvs_fit, fixed_shape, shaped, same_use, object_bar}
use Rattle.model.specs.Constraint.{from_first, counts_hops, adds_up, path_value, summary, met, mandatory, unknown_mandatory, constraint_bar}
use Rattle.model.specs.Cut.{may_have_tlvs, cut_body, cut_object, keep_if, cut}
use Rattle.model.proofs.BoolLaws.{neither, or_left, or_middle}
use Rattle.model.proofs.TypeLaws.{tlv_types, unknown_hops, unknown_adds}
use Rattle.model.proofs.TabledLaws.{bar_free}
use Rattle.model.proofs.SummaryLaws.{adds_use}
use Rattle.model.proofs.NumberLaws.{first-zero, is_given, given_first, given_none}

-- ---- the cut of a body and of a list

pub cut_body_whole : (r : Role) (b : List ℕ) → cut_body r false b ≡ b
cut_body_whole constraint b = refl
cut_body_whole recorded b = refl
cut_body_whole aggregated b = refl

take_byte0 : (b : List ℕ) → get_or (take 2 b) 0 0 ≡ get_or b 0 0
take_byte0 [] = refl
take_byte0 (x ∷ t) = refl

take_byte1 : (b : List ℕ) → get_or (take 2 b) 1 0 ≡ get_or b 1 0
take_byte1 [] = refl
take_byte1 (x ∷ []) = refl
take_byte1 (x ∷ y ∷ t) = refl

pub cut_body_byte0 : (r : Role) (t : Bool) (b : List ℕ) → get_or (cut_body r t b) 0 0 ≡ get_or b 0 0
cut_body_byte0 constraint true b = take_byte0 b
cut_body_byte0 constraint false b = refl
cut_body_byte0 recorded t b = refl
cut_body_byte0 aggregated true b = take_byte0 b
cut_body_byte0 aggregated false b = refl

pub cut_body_byte1 : (r : Role) (t : Bool) (b : List ℕ) → get_or (cut_body r t b) 1 0 ≡ get_or b 1 0
cut_body_byte1 constraint true b = take_byte1 b
cut_body_byte1 constraint false b = refl
cut_body_byte1 recorded t b = refl
cut_body_byte1 aggregated true b = take_byte1 b
cut_body_byte1 aggregated false b = refl

pub cut-append : (es os : List Object) → cut (es ++ os) ≡ cut es ++ cut os
unfolding cut
cut-append [] os = refl
cut-append (e ∷ es) os = go (known (kind e)) (cut-append es os)
  where
    go : (b : Bool) → cut (es ++ os) ≡ cut es ++ cut os → keep_if b (cut_object e) (cut (es ++ os)) ≡ keep_if b (cut_object e) (cut es) ++ cut os
    go true ih = rw ih
    go false ih = ih

-- ---- bars 15 to 17

tlvs_cut : (b : List ℕ) → leb 2 (length b) && tlvs_fit (drop 2 b) ≡ true → leb 2 (length (take 2 b)) && tlvs_fit (drop 2 (take 2 b)) ≡ true
unfolding tlvs_fit tlvs_up_to
tlvs_cut [] e = e
tlvs_cut (x ∷ []) e = e
tlvs_cut (x ∷ y ∷ t) e = refl

fixed_shape_cut : (k : Kind) (b : List ℕ) → fixed_shape (row k) b ≡ true → fixed_shape (row k) (cond (row k).tlvs (take 2 b) b) ≡ true
fixed_shape_cut unknown b e = e
fixed_shape_cut lql b e = e
fixed_shape_cut colour b e = e
fixed_shape_cut (node nsa) b e = tlvs_cut b e
fixed_shape_cut (node ne) b e = tlvs_cut b e
fixed_shape_cut (node hp) b e = tlvs_cut b e
fixed_shape_cut (scalar throughput) b e = e
fixed_shape_cut (scalar latency) b e = e
fixed_shape_cut (scalar etx) b e = e

shaped_cut : (r : Role) (k : Kind) (b : List ℕ) → shaped r (row k) b ≡ true → shaped r (row k) (cut_body r (row k).tlvs b) ≡ true
shaped_cut constraint k b e = fixed_shape_cut k b e
shaped_cut recorded k b e = e
shaped_cut aggregated k b e = fixed_shape_cut k b e

-- an object of unknown type has not the type of a known one
same_use_unknown : (o e : Object) → known (kind o) ≡ true → known (kind e) ≡ false → same_use o e ≡ false
same_use_unknown o e p q = go (eqb e.type o.type) refl
  where
    go : (b : Bool) → eqb e.type o.type ≡ b → b && eqb (bit_c e) (bit_c o) ≡ false
    go true t = let s = eqb-true e.type o.type t in cc
    go false t = refl

earlier_cut : (o : Object) → known (kind o) ≡ true → (es : List Object) → any_of (same_use o) (cut es) ≡ any_of (same_use o) es
unfolding cut
earlier_cut o p [] = refl
earlier_cut o p (e ∷ es) = go (known (kind e)) refl (earlier_cut o p es)
  where
    go : (b : Bool) → known (kind e) ≡ b → any_of (same_use o) (cut es) ≡ any_of (same_use o) es
        → any_of (same_use o) (keep_if b (cut_object e) (cut es)) ≡ any_of (same_use o) (e ∷ es)
    go true q ih = rw ih
    go false q ih = rw (same_use_unknown o e p q, ih)

object_bar-cut : (es : List Object) (o : Object) → known (kind o) ≡ true → object_bar (record { earlier = es; object = o }) ≡ 0
    → object_bar (record { earlier = cut es; object = cut_object o }) ≡ 0
unfolding object_bar
object_bar-cut es o p e =
    let (m, s, r) = bar_free es o e p in
    rw (← tlv_types o.type, p, m, shaped_cut (role o) (kind o) o.body s, earlier_cut o p es, r)

-- a well-formed container, cut, is well-formed
pub object_bars_cut : (es os : List Object) → first_of object_bar (standings es os) ≡ 0 → first_of object_bar (standings (cut es) (cut os)) ≡ 0
unfolding first_of standings cut
object_bars_cut es [] e = refl
object_bars_cut es (o ∷ os) e =
    let (h, t) = first-zero (object_bar (record { earlier = es; object = o })) (first_of object_bar (standings (es ++ (o ∷ [])) os)) e in
    go (known (kind o)) refl h (rw (cut-append es (o ∷ [])) at (object_bars_cut (es ++ (o ∷ [])) os t))
  where
    go : (b : Bool) → known (kind o) ≡ b → object_bar (record { earlier = es; object = o }) ≡ 0
        → first_of object_bar (standings (cut es ++ keep_if b (cut_object o) []) (cut os)) ≡ 0
        → first_of object_bar (standings (cut es) (keep_if b (cut_object o) (cut os))) ≡ 0
    go true p h ih = rw (object_bar-cut es o p h) ih
    go false p h ih = rw (append-nil (cut es)) at ih

-- ---- bars 18 and 19

met_cut : (c : Neighbour) (s : Summary) (r : Role) (k : Kind) (b : List ℕ) → met c s k (cut_body r (row k).tlvs b) ≡ met c s k b
unfolding met
met_cut c s r unknown b = refl
met_cut c s r lql b = rw cut_body_byte1
met_cut c s r colour b = rw cut_body_whole
met_cut c s r (node nsa) b = rw cut_body_byte1
met_cut c s r (node ne) b = rw (cut_body_byte0, cut_body_byte1)
met_cut c s r (node hp) b = rw cut_body_byte1
met_cut c s r (scalar throughput) b = rw cut_body_whole
met_cut c s r (scalar latency) b = rw cut_body_whole
met_cut c s r (scalar etx) b = rw cut_body_whole

constraint_bar_cut : (c : Neighbour) (s : Summary) (o : Object) → constraint_bar c s (cut_object o) ≡ constraint_bar c s o
unfolding constraint_bar
constraint_bar_cut c s o = rw (← tlv_types o.type, met_cut)

pub unknown_kind : (k : Kind) → known k ≡ false → k ≡ unknown
unknown_kind unknown e = refl
unknown_kind lql e = cc
unknown_kind colour e = cc
unknown_kind (node n) e = cc
unknown_kind (scalar s) e = cc

-- what the first object with a property tells, where the cut keeps those that have it and what they tell
from_first-cut : {A : Type 0} (d : A) (p : Object → Bool) (f : Object → A) → ((o : Object) → p (cut_object o) ≡ p o) → ((o : Object) → p o ≡ true → f (cut_object o) ≡ f o)
    → ((o : Object) → known (kind o) ≡ false → p o ≡ false) → (os : List Object) → from_first d p f (cut os) ≡ from_first d p f os
unfolding from_first cut
from_first-cut d p f same tells goes [] = refl
from_first-cut d p f same tells goes (o ∷ os) = go (known (kind o)) (p o) refl refl (from_first-cut d p f same tells goes os)
  where
    go : (b t : Bool) → known (kind o) ≡ b → p o ≡ t → from_first d p f (cut os) ≡ from_first d p f os
        → from_first d p f (keep_if b (cut_object o) (cut os)) ≡ cond t (f o) (from_first d p f os)
    go true true k e ih = rw (same o, e, tells o e)
    go true false k e ih = rw (same o, e, ih)
    go false true k e ih = absurd (true≢false (sym e ∙ goes o k))
    go false false k e ih = ih

-- the body of a scalar is whole under the cut
adds_whole : (s : Scalar) (o : Object) → adds_up s o ≡ true → number (cut_object o).body ≡ number o.body
adds_whole s o e = rw (adds_use s o e).0 (go s)
  where
    go : (s : Scalar) → number (cut_body (role o) (may_have_tlvs (type_of s)) o.body) ≡ number o.body
    go throughput = rw cut_body_whole
    go latency = rw cut_body_whole
    go etx = rw cut_body_whole

path_value-cut : (s : Scalar) (os : List Object) → path_value s (cut os) ≡ path_value s os
path_value-cut s = from_first-cut 0 (adds_up s) (λ o. number o.body) (λ o. refl) (adds_whole s) (unknown_adds s)

summary-cut : (os : List Object) → summary (cut os) ≡ summary os
summary-cut os = rw (
  from_first-cut None counts_hops (λ o. Some (get_or o.body 1 0)) (λ o. refl) (λ o e. rw cut_body_byte1) unknown_hops os,
  path_value-cut latency os,
  path_value-cut etx os,
)

-- an unknown object bars exactly if it is a mandatory constraint
unknown_bars : (m x : Bool) → is_given (first_case (18 when (m && true) ∷ 19 when (m && false && x) ∷ [])) ≡ m && true
unknown_bars true x = refl
unknown_bars false x = refl

constraint_bar_unknown : (c : Neighbour) (s : Summary) (o : Object) → known (kind o) ≡ false → is_given (constraint_bar c s o) ≡ unknown_mandatory o
unfolding constraint_bar
constraint_bar_unknown c s o q = rw q (unknown_bars (mandatory o) (not (met c s (kind o) o.body)))

unknown_mandatory-known : (o : Object) → known (kind o) ≡ true → unknown_mandatory o ≡ false
unknown_mandatory-known o q = rw q (and-false (mandatory o))

-- cut, a container is barred by 18 or 19 exactly where it was, but for its unknown mandatory constraints
bars_cut : (c : Neighbour) (s : Summary) (os : List Object)
    → is_given (first_of (constraint_bar c s) os) ≡ is_given (first_of (constraint_bar c s) (cut os)) || any_of unknown_mandatory os
unfolding first_of cut
bars_cut c s [] = refl
bars_cut c s (o ∷ os) = go (known (kind o)) refl (bars_cut c s os)
  where
    go : (b : Bool) → known (kind o) ≡ b → is_given (first_of (constraint_bar c s) os) ≡ is_given (first_of (constraint_bar c s) (cut os)) || any_of unknown_mandatory os
        → is_given (first_of (constraint_bar c s) (o ∷ os)) ≡ is_given (first_of (constraint_bar c s) (keep_if b (cut_object o) (cut os))) || any_of unknown_mandatory (o ∷ os)
    go true q ih =
        let b = constraint_bar c s o in
        let n = first_of (constraint_bar c s) os in
        let n' = first_of (constraint_bar c s) (cut os) in
        rw (constraint_bar_cut c s o, given_first b n, given_first b n', unknown_mandatory-known o q)
        (or_left (is_given b) (is_given n) (is_given n') (any_of unknown_mandatory os) ih)
    go false q ih =
        let n = first_of (constraint_bar c s) os in
        let n' = first_of (constraint_bar c s) (cut os) in
        rw (given_first (constraint_bar c s o) n, constraint_bar_unknown c s o q)
        (or_middle (unknown_mandatory o) (is_given n) (is_given n') (any_of unknown_mandatory os) ih)

bars_same : (c : Neighbour) (s : Summary) (os : List Object) → any_of unknown_mandatory os ≡ false → first_of (constraint_bar c s) os ≡ first_of (constraint_bar c s) (cut os)
unfolding first_of cut
bars_same c s [] e = refl
bars_same c s (o ∷ os) e = let (h, t) = neither (unknown_mandatory o) (any_of unknown_mandatory os) e in go (known (kind o)) refl h (bars_same c s os t)
  where
    go : (b : Bool) → known (kind o) ≡ b → unknown_mandatory o ≡ false → first_of (constraint_bar c s) os ≡ first_of (constraint_bar c s) (cut os)
        → first_of (constraint_bar c s) (o ∷ os) ≡ first_of (constraint_bar c s) (keep_if b (cut_object o) (cut os))
    go true q h ih = rw (constraint_bar_cut c s o, ih)
    go false q h ih = rw (given_none (constraint_bar c s o) (constraint_bar_unknown c s o q ∙ h), ih)

-- the two laws for a whole container
pub constraint_bars_cut : (c : Neighbour) (os : List Object)
    → is_given (first_of (constraint_bar c (summary os)) os) ≡ is_given (first_of (constraint_bar c (summary (cut os))) (cut os)) || any_of unknown_mandatory os
constraint_bars_cut c os = rw (summary-cut os) (bars_cut c (summary os) os)

pub constraint_bars_same : (c : Neighbour) (os : List Object) → any_of unknown_mandatory os ≡ false
    → first_of (constraint_bar c (summary os)) os ≡ first_of (constraint_bar c (summary (cut os))) (cut os)
constraint_bars_same c os e = rw (summary-cut os) (bars_same c (summary os) os e)
