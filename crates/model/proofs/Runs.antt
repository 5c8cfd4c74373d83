-- Objects that fit one container; options that are stepped over; next-fit of what is passed on.
use mathlib.Core.Path.{◌≡◌, refl, sym, ap, ◌∙◌}
use Prim.Native.Nat.{ℕ, zero, suc, ◌+◌, ◌≤◌}
use native.Mathlib.Omega.{arith}
use mathlib.Core.Bool.{Bool, true, false, cond}
use mathlib.Core.List.{List, [], ◌∷◌, ◌++◌, map, append_assoc, append-nil}
use mathlib.Core.Option.{Option, none, some, none-ne-some}
use lib.ListN.{length, get_elem?, length-append}
use lib.Dec.{leb, ltb, eqb}
use borrow.Author.Tests.{le-leb, leb-false, eqb-false, ne_eqb}
use Rattle.model.specs.Number.{any_of, first_of}
use Rattle.model.specs.Object.{Object, standings, split_up_to, split, join, bytes_of}
use Rattle.model.specs.Reading.{refused, no_place, is_none, Reading, read_objects}
use Rattle.model.specs.Cut.{keep_if}
use Rattle.model.specs.Run.{RplOption, pad1, option, option_bytes, join_options, options_up_to, options, is_container, containers, objects_of, options_in, joined_objects, read_run}
use Rattle.model.specs.Update.{update}
use Rattle.model.specs.Pack.{pack_from, pack, packed}
use Rattle.model.specs.Runs.{OnePacked, is_container_option, NoContainer, Skips, OpensLate, NextFit}
use Rattle.model.proofs.BoolLaws.{neither}
use Rattle.model.proofs.ObjectLaws.{split-join, join-append}
use Rattle.model.proofs.RunLaws.{following, options-append, options_join}
use Rattle.model.proofs.PackLaws.{join_one, data_options}
use Rattle.model.proofs.Selection.{selection}
use Rattle.model.proofs.ByteLaws.{containers_are}
use Rattle.model.proofs.OutgoingLaws.{passed_is}

-- ---- one container written

pack_one : (es os : List Object) → length (join (es ++ os)) ≤ 255 → pack_from es os ≡ (es ++ os) ∷ []
unfolding pack_from
pack_one es [] h = rw (append-nil es)
pack_one es (o ∷ os) h =
    let l : length (join ((es ++ (o ∷ [])) ++ os)) ≤ 255 = rw (append_assoc es (o ∷ []) os) h in
    let n : length (join ((es ++ (o ∷ [])) ++ os)) ≡ length (join (es ++ (o ∷ []))) + length (join os) = rw (join-append (es ++ (o ∷ [])) os) (length-append (join (es ++ (o ∷ []))) (join os)) in
    let w : length (join es) + length (bytes_of o) ≤ 255 = omega (arith, join_one es o) in
    rw (le-leb (length (join es) + length (bytes_of o)) 255 w, pack_one (es ++ (o ∷ [])) os l, append_assoc es (o ∷ []) os)

pub one_packed : OnePacked
unfolding packed join_options
one_packed os h = rw (pack_one [] os h, append-nil (join os))

-- ---- options that are stepped over

-- type t + 1 is 2 where t is 1
other_type : (t : ℕ) → eqb (suc t) 2 ≡ false → is_container t ≡ false
other_type t h = ne_eqb t 1 (λ e. eqb-false (suc t) 2 h (ap suc e))

no_containers : (os : List RplOption) → any_of is_container_option os ≡ false → containers os ≡ []
unfolding containers
no_containers [] h = refl
no_containers (pad1 ∷ os) h = no_containers os h
no_containers (option t d ∷ os) h =
    let (a, b) = neither (is_container_option (option t d)) (any_of is_container_option os) h in
    go (is_container t) (other_type t a) (no_containers os b)
  where
    go : (b : Bool) → b ≡ false → containers os ≡ [] → keep_if b d (containers os) ≡ []
    go true e ih = cc
    go false e ih = ih

pub no_container_lem : NoContainer
unfolding read_run containers objects_of options options_up_to split split_up_to first_of standings
no_container_lem os h = (rw (options_join os, no_containers os h), rw (options_join os, no_containers os h) refl)

-- containers of options one behind another
pub containers-append : (a b : List RplOption) → containers (a ++ b) ≡ containers a ++ containers b
unfolding containers
containers-append [] b = refl
containers-append (pad1 ∷ a) b = containers-append a b
containers-append (option t d ∷ a) b = go (is_container t) (containers-append a b)
  where
    go : (c : Bool) → containers (a ++ b) ≡ containers a ++ containers b → keep_if c d (containers (a ++ b)) ≡ keep_if c d (containers a) ++ containers b
    go true ih = rw ih
    go false ih = ih

-- a run is read by its options
abbrev pub read_as_options : Option (List RplOption) → Reading
read_as_options r = cond (is_none r) (refused 22 no_place) (cond (ltb 8 (length (containers (options_in r)))) (refused 23 no_place) (read_objects (joined_objects r)))

pub read_by : (bs : List ℕ) → read_run bs ≡ read_as_options (options bs)
unfolding read_run
read_by bs = refl

-- an option that is no container adds none
no_more : (o : RplOption) (b : List RplOption) → is_container_option o ≡ false → containers (o ∷ b) ≡ containers b
unfolding containers
no_more pad1 b h = refl
no_more (option t d) b h = go (is_container t) (other_type t h)
  where
    go : (c : Bool) → c ≡ false → keep_if c d (containers b) ≡ containers b
    go true e = cc
    go false e = refl

stepped : (a : List RplOption) (o : RplOption) → is_container_option o ≡ false → (r : Option (List RplOption))
    → read_as_options (following (a ++ (o ∷ [])) r) ≡ read_as_options (following a r)
stepped a o h none = refl
stepped a o h (some b) = rw (append_assoc a (o ∷ []) b, containers-append a (o ∷ b), containers-append a b, no_more o b h)

-- options end to end, one more
pub options_one : (a : List RplOption) (o : RplOption) → join_options (a ++ (o ∷ [])) ≡ join_options a ++ option_bytes o
unfolding join_options
options_one [] o = append-nil (option_bytes o)
options_one (p ∷ a) o = rw (options_one a o, append_assoc (option_bytes p) (join_options a) (option_bytes o))

pub skips : Skips
skips a o rest h =
    ap read_run (sym (append_assoc (join_options a) (option_bytes o) rest) ∙ ap (λ l. l ++ rest) (sym (options_one a o)))
    ∙ read_by (join_options (a ++ (o ∷ [])) ++ rest) ∙ ap read_as_options (options-append (a ++ (o ∷ [])) rest)
    ∙ stepped a o h (options rest) ∙ sym (read_by (join_options a ++ rest) ∙ ap read_as_options (options-append a rest))

-- ---- next-fit

-- the first container begins with what is held
pack_head : (es os : List Object) → (ps : List Object) × (rest : List (List Object)) × (pack_from es os ≡ (es ++ ps) ∷ rest)
unfolding pack_from
pack_head es [] = ([], [], rw (append-nil es))
pack_head es (o ∷ os) = go (leb (length (join es) + length (bytes_of o)) 255) (pack_head (es ++ (o ∷ [])) os)
  where
    go : (b : Bool) → ((ps : List Object) × (rest : List (List Object)) × (pack_from (es ++ (o ∷ [])) os ≡ ((es ++ (o ∷ [])) ++ ps) ∷ rest))
        → (ps : List Object) × (rest : List (List Object)) × (cond b (pack_from (es ++ (o ∷ [])) os) (es ∷ pack_from (o ∷ []) os) ≡ (es ++ ps) ∷ rest)
    go true (ps, rest, e) = (o ∷ ps, rest, e ∙ ap (λ l. l ∷ rest) (append_assoc es (o ∷ []) ps))
    go false x = ([], pack_from (o ∷ []) os, ap (λ l. l ∷ pack_from (o ∷ []) os) (sym (append-nil es)))

opens_late : (es os : List Object) (i : ℕ) (d e : List ℕ) → get_elem? (map join (pack_from es os)) i ≡ some d → get_elem? (map join (pack_from es os)) (suc i) ≡ some e → OpensLate d e
unfolding pack_from
opens_late es [] i d e p q = absurd (none-ne-some e q)
opens_late es (o ∷ os) i d e p q =
    go (leb (length (join es) + length (bytes_of o)) 255) refl i p q (opens_late (es ++ (o ∷ [])) os) (opens_late (o ∷ []) os)
  where
    first : (gs : List (List Object)) → ((ps : List Object) × (rest : List (List Object)) × (gs ≡ ((o ∷ []) ++ ps) ∷ rest)) → leb (length (join es) + length (bytes_of o)) 255 ≡ false
        → join es ≡ d → get_elem? (map join gs) 0 ≡ some e → OpensLate d e
    first gs (ps, rest, g) f p q =
        let x : join (o ∷ ps) ≡ e = let y : some (join (o ∷ ps)) ≡ some e = rw g at q in cc in
        (o, ps, ap split (sym x) ∙ split-join (o ∷ ps), rw (← p) (leb-false (length (join es) + length (bytes_of o)) 255 f))

    go : (b : Bool) → leb (length (join es) + length (bytes_of o)) 255 ≡ b → (i : ℕ) → get_elem? (map join (cond b (pack_from (es ++ (o ∷ [])) os) (es ∷ pack_from (o ∷ []) os))) i ≡ some d
        → get_elem? (map join (cond b (pack_from (es ++ (o ∷ [])) os) (es ∷ pack_from (o ∷ []) os))) (suc i) ≡ some e
        → ((i : ℕ) (d e : List ℕ) → get_elem? (map join (pack_from (es ++ (o ∷ [])) os)) i ≡ some d → get_elem? (map join (pack_from (es ++ (o ∷ [])) os)) (suc i) ≡ some e → OpensLate d e)
        → ((i : ℕ) (d e : List ℕ) → get_elem? (map join (pack_from (o ∷ []) os)) i ≡ some d → get_elem? (map join (pack_from (o ∷ []) os)) (suc i) ≡ some e → OpensLate d e)
        → OpensLate d e
    go true f i p q x y = x i d e p q
    go false f zero p q x y = let z : join es ≡ d = cc in first (pack_from (o ∷ []) os) (pack_head (o ∷ []) os) f z q
    go false f (suc i) p q x y = y i d e p q

-- containers are known by their bytes
same_data : (ds es : List (List ℕ)) → join_options (map (option 1) ds) ≡ join_options (map (option 1) es) → ds ≡ es
unfolding containers
same_data ds es h = sym (containers_are ds) ∙ ap containers same ∙ containers_are es
  where
    same : map (option 1) ds ≡ map (option 1) es
    same = let z : some (map (option 1) ds) ≡ some (map (option 1) es) = sym (options_join (map (option 1) ds)) ∙ ap options h ∙ options_join (map (option 1) es) in cc

pub next_fit : NextFit
unfolding packed
next_fit own cs lent out p ds h i d e x y =
    let s = (selection own cs lent out p.unrefused).parent p.parent in
    let us = update own s.candidate.neighbour s.objects in
    let z : ds ≡ map join (pack us) = same_data ds (map join (pack us)) (sym h ∙ passed_is own cs lent out p.unrefused s p.no_leaf ∙ ap join_options (data_options (pack us))) in
    opens_late [] us i d e (rw z at x) (rw z at y)
