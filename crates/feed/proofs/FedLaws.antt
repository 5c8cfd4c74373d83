-- A run fed in parts reads as the whole run.
use mathlib.Core.Path.{◌≡◌, refl, sym, ap, ◌∙◌}
use Prim.Native.Nat.{ℕ, zero, suc, ◌+◌, ◌-◌, ◌≤◌, ◌<◌}
use mathlib.Core.Bool.{Bool, true, false, cond}
use mathlib.Core.List.{List, [], ◌∷◌, ◌++◌, append_assoc, append-nil}
use mathlib.Core.Option.{none, some}
use native.Mathlib.Omega.{arith}
use lib.ListN.{length, take, length-append}
use lib.Seq.{take-append_seam}
use lib.Dec.{ltb, eqb}
use borrow.Author.Tests.{lt-leb, lt-ltb, ltb-true, ltb-false, eqb-false}
use Rattle.model.specs.Reading.{no_place, refused, read_objects}
use Rattle.model.specs.Cut.{keep_if}
use Rattle.model.specs.Run.{RplOption, pad1, option, option_bytes, join_options, options, options_up_to, containers, objects_of, read_run}
use Rattle.feed.specs.Feeding.{Keep, dropped, emptied, whole, Phase, between, typed, within, Feeding, keep_of, closed, goes_on, kept_with, begins, feed_at, feed_byte, feed, unfed}
use Rattle.model.proofs.RunLaws.{options_step, options-append, options_join}
use Rattle.model.proofs.Runs.{read_as_options, read_by}

-- feeding parts is feeding them joined
pub feed-append : (s : Feeding) (a b : List ℕ) → feed s (a ++ b) ≡ feed (feed s a) b
unfolding feed
feed-append s [] b = refl
feed-append s (x ∷ a) b = feed-append (feed_byte s x) a b

-- ---- what is kept of options

-- what is kept of an option
abbrev kept_option : Keep → ℕ → List ℕ → List RplOption
kept_option dropped t d = []
kept_option emptied t d = option t [] ∷ []
kept_option whole t d = option t d ∷ []

abbrev counted : Keep → ℕ → ℕ
counted dropped n = n
counted emptied n = suc n
counted whole n = suc n

unfoldable kept_from : ℕ → List RplOption → List RplOption
kept_from n [] = []
kept_from n (pad1 ∷ os) = kept_from n os
kept_from n (option t d ∷ os) = kept_option (keep_of t n) t d ++ kept_from (counted (keep_of t n) n) os

unfoldable count_from : ℕ → List RplOption → ℕ
count_from n [] = n
count_from n (pad1 ∷ os) = count_from n os
count_from n (option t d ∷ os) = count_from (counted (keep_of t n) n) os

-- one option more
kept_snoc : (n : ℕ) (os : List RplOption) (t : ℕ) (d : List ℕ) → kept_from n (os ++ (option t d ∷ [])) ≡ kept_from n os ++ kept_option (keep_of t (count_from n os)) t d
unfolding kept_from count_from
kept_snoc n [] t d = append-nil (kept_option (keep_of t n) t d)
kept_snoc n (pad1 ∷ os) t d = kept_snoc n os t d
kept_snoc n (option u e ∷ os) t d =
    rw (kept_snoc (counted (keep_of u n) n) os t d, append_assoc (kept_option (keep_of u n) u e) (kept_from (counted (keep_of u n) n) os) (kept_option (keep_of t (count_from (counted (keep_of u n) n) os)) t d))

kept_pad : (n : ℕ) (os : List RplOption) → kept_from n (os ++ (pad1 ∷ [])) ≡ kept_from n os
unfolding kept_from
kept_pad n [] = refl
kept_pad n (pad1 ∷ os) = kept_pad n os
kept_pad n (option u e ∷ os) = rw (kept_pad (counted (keep_of u n) n) os)

count_snoc : (n : ℕ) (os : List RplOption) (t : ℕ) (d : List ℕ) → count_from n (os ++ (option t d ∷ [])) ≡ counted (keep_of t (count_from n os)) (count_from n os)
unfolding count_from
count_snoc n [] t d = refl
count_snoc n (pad1 ∷ os) t d = count_snoc n os t d
count_snoc n (option u e ∷ os) t d = count_snoc (counted (keep_of u n) n) os t d

count_pad : (n : ℕ) (os : List RplOption) → count_from n (os ++ (pad1 ∷ [])) ≡ count_from n os
unfolding count_from
count_pad n [] = refl
count_pad n (pad1 ∷ os) = count_pad n os
count_pad n (option u e ∷ os) = count_pad (counted (keep_of u n) n) os

join_snoc : (os ps : List RplOption) → join_options (os ++ ps) ≡ join_options os ++ join_options ps
unfolding join_options
join_snoc [] ps = refl
join_snoc (o ∷ os) ps = rw (join_snoc os ps, append_assoc (option_bytes o) (join_options os) (join_options ps))

-- ---- the options kept read as all of them

-- few containers are all kept; of more, nine
record Nine (n : ℕ) (all kept : List (List ℕ)) : Type 0 where
  few : n + length all ≤ 8 → kept ≡ all
  many : 8 < n + length all → n ≤ 8 → 8 < n + length kept

nine : (n : ℕ) (os : List RplOption) → Nine n (containers os) (containers (kept_from n os))
unfolding containers kept_from
nine n [] = record { few = λ h. refl; many = λ h i. h }
nine n (pad1 ∷ os) = nine n os
nine n (option t d ∷ os) = go (eqb t 1) refl (ltb n 8) refl (eqb n 8) refl (nine n os) (nine (suc n) os)
  where
    go : (a : Bool) → eqb t 1 ≡ a → (b : Bool) → ltb n 8 ≡ b → (c : Bool) → eqb n 8 ≡ c
        → Nine n (containers os) (containers (kept_from n os)) → Nine (suc n) (containers os) (containers (kept_from (suc n) os))
        → Nine n (keep_if a d (containers os)) (containers (kept_option (cond a (cond b whole (cond c emptied dropped)) dropped) t d ++ kept_from (counted (cond a (cond b whole (cond c emptied dropped)) dropped) n) os))
    go true p true q c r same ih =
        rw p (record { few = λ h. rw (ih.few (omega arith)); many = λ h i. let x = ih.many (omega arith) (omega (arith, ltb-true n 8 q)) in omega arith })
    go true p false q true r same ih =
        rw p (record { few = λ h. absurd (omega (arith, ltb-false n 8 q)); many = λ h i. omega (arith, ltb-false n 8 q) })
    go true p false q false r same ih =
        record { few = λ h. absurd (omega (arith, ltb-false n 8 q)); many = λ h i. absurd (eqb-false n 8 r (omega (arith, ltb-false n 8 q))) }
    go false p b q c r same ih = same

read_nine : (all kept : List RplOption) → Nine 0 (containers all) (containers kept) → read_as_options (some kept) ≡ read_as_options (some all)
read_nine all kept h = go (ltb 8 (length (containers all))) refl
  where
    go : (b : Bool) → ltb 8 (length (containers all)) ≡ b → read_as_options (some kept) ≡ cond b (refused 23 no_place) (read_objects (objects_of (containers all)))
    go true e = rw (lt-ltb 8 (length (containers kept)) (let x = h.many (omega (arith, ltb-true 8 (length (containers all)) e)) (omega arith) in omega arith))
    go false e = rw (h.few (omega (arith, ltb-false 8 (length (containers all)) e)), e)

-- ---- what was fed

-- the bytes of the option in hand that are kept
abbrev part_kept : Keep → ℕ → ℕ → List ℕ → List ℕ
part_kept dropped t n got = suc t ∷ []
part_kept emptied t n got = suc t ∷ []
part_kept whole t n got = suc t ∷ n ∷ got

data Holds : Phase → (count : ℕ) → (kept run : List ℕ) → Type 0 where
  at_option : (os : List RplOption) → Holds between (count_from 0 os) (join_options (kept_from 0 os)) (join_options os)
  at_type : (os : List RplOption) (t : ℕ) → Holds (typed (keep_of t (count_from 0 os))) (count_from 0 os) (join_options (kept_from 0 os) ++ (suc t ∷ [])) (join_options os ++ (suc t ∷ []))
  in_option : (os : List RplOption) (t m : ℕ) (got : List ℕ)
      → Holds (within (keep_of t (count_from 0 os)) (suc m)) (count_from 0 os) (join_options (kept_from 0 os) ++ part_kept (keep_of t (count_from 0 os)) t (length got + suc m) got)
      (join_options os ++ (suc t ∷ (length got + suc m) ∷ got))

abbrev HoldsFed : Feeding → List ℕ → Type 0
HoldsFed s run = Holds s.phase s.count s.kept run

-- an option that is complete
close : (os : List RplOption) (t : ℕ) (d : List ℕ) (p : Keep) → p ≡ keep_of t (count_from 0 os) → (k : List ℕ) → k ≡ join_options (kept_from 0 os) ++ part_kept p t (length d) d
    → HoldsFed (closed p (count_from 0 os) k) (join_options os ++ (suc t ∷ length d ∷ d))
unfolding join_options
close os t d p e k q = go p e q (kept_snoc 0 os t d) (count_snoc 0 os t d) (at_option (os ++ (option t d ∷ [])))
  where
    run : join_options (os ++ (option t d ∷ [])) ≡ join_options os ++ (suc t ∷ length d ∷ d)
    run = join_snoc os (option t d ∷ []) ∙ rw (append-nil d)

    go : (p : Keep) → p ≡ keep_of t (count_from 0 os) → k ≡ join_options (kept_from 0 os) ++ part_kept p t (length d) d
        → kept_from 0 (os ++ (option t d ∷ [])) ≡ kept_from 0 os ++ kept_option (keep_of t (count_from 0 os)) t d
        → count_from 0 (os ++ (option t d ∷ [])) ≡ counted (keep_of t (count_from 0 os)) (count_from 0 os)
        → Holds between (count_from 0 (os ++ (option t d ∷ []))) (join_options (kept_from 0 (os ++ (option t d ∷ [])))) (join_options (os ++ (option t d ∷ [])))
        → HoldsFed (closed p (count_from 0 os) k) (join_options os ++ (suc t ∷ length d ∷ d))
    go dropped e q x y h =
        let len : length k - 1 ≡ length (join_options (kept_from 0 os)) = rw (q, length-append (join_options (kept_from 0 os)) (suc t ∷ [])) (omega arith) in
        let kk : take (length k - 1) k ≡ join_options (kept_from 0 (os ++ (option t d ∷ []))) =
        rw (len, q, take-append_seam (join_options (kept_from 0 os)) (suc t ∷ []), x, ← e, append-nil (kept_from 0 os)) in
        let n : count_from 0 os ≡ count_from 0 (os ++ (option t d ∷ [])) = rw (y, ← e) in
        rw (kk, n, ← run) h
    go emptied e q x y h =
        let kk : k ++ (0 ∷ []) ≡ join_options (kept_from 0 (os ++ (option t d ∷ []))) =
        rw (q, x, ← e, join_snoc (kept_from 0 os) (option t [] ∷ []), append_assoc (join_options (kept_from 0 os)) (suc t ∷ []) (0 ∷ [])) in
        let n : suc (count_from 0 os) ≡ count_from 0 (os ++ (option t d ∷ [])) = rw (y, ← e) in
        rw (kk, n, ← run) h
    go whole e q x y h =
        let kk : k ≡ join_options (kept_from 0 (os ++ (option t d ∷ []))) = rw (q, x, ← e, join_snoc (kept_from 0 os) (option t d ∷ []), append-nil d) in
        let n : suc (count_from 0 os) ≡ count_from 0 (os ++ (option t d ∷ [])) = rw (y, ← e) in
        rw (kk, n, ← run) h

-- one byte more
abbrev More : Feeding → List ℕ → ℕ → Type 0
More s run b = HoldsFed s (run ++ (b ∷ []))

-- a byte behind a type byte, or in an option
goes : (os : List RplOption) (t m : ℕ) (got : List ℕ) (p : Keep) → p ≡ keep_of t (count_from 0 os) → (k : List ℕ)
    → k ≡ join_options (kept_from 0 os) ++ part_kept p t (length got + m) got → HoldsFed (goes_on p m (count_from 0 os) k) (join_options os ++ (suc t ∷ (length got + m) ∷ got))
goes os t zero got p e k q =
    let z : length got + 0 ≡ length got = omega arith in
    rw z (close os t got p e k (rw z at q))
goes os t (suc m) got p e k q = rw (q, e) (in_option os t m got)

kept_with_type : (p : Keep) (k : List ℕ) (t b : ℕ) → kept_with p (k ++ (suc t ∷ [])) b ≡ k ++ part_kept p t (0 + b) []
kept_with_type dropped k t b = refl
kept_with_type emptied k t b = refl
kept_with_type whole k t b = let z : 0 + b ≡ b = omega arith in rw (z, append_assoc k (suc t ∷ []) (b ∷ []))

kept_with_data : (p : Keep) (k : List ℕ) (t n b : ℕ) (got : List ℕ) → kept_with p (k ++ part_kept p t n got) b ≡ k ++ part_kept p t n (got ++ (b ∷ []))
kept_with_data dropped k t n b got = refl
kept_with_data emptied k t n b got = refl
kept_with_data whole k t n b got = append_assoc k (suc t ∷ n ∷ got) (b ∷ [])

begins_holds : (os : List RplOption) (b : ℕ) → HoldsFed (begins b (count_from 0 os) (join_options (kept_from 0 os))) (join_options os ++ (b ∷ []))
unfolding join_options
begins_holds os zero =
    let run : join_options (os ++ (pad1 ∷ [])) ≡ join_options os ++ (0 ∷ []) = join_snoc os (pad1 ∷ []) in
    rw (← run, ← count_pad 0 os, ← kept_pad 0 os) (at_option (os ++ (pad1 ∷ [])))
begins_holds os (suc t) = at_type os t

feed_holds : (p : Phase) (n : ℕ) (k run : List ℕ) (b : ℕ) → Holds p n k run → HoldsFed (feed_at p n k b) (run ++ (b ∷ []))
feed_holds p n k run b (at_option os) = begins_holds os b
feed_holds p n k run b (at_type os t) =
    let z : 0 + b ≡ b = omega arith in
    let h = goes os t b [] (keep_of t (count_from 0 os)) refl _ (kept_with_type (keep_of t (count_from 0 os)) (join_options (kept_from 0 os)) t b) in
    rw (append_assoc (join_options os) (suc t ∷ []) (b ∷ [])) (rw z at h)
feed_holds p n k run b (in_option os t m got) =
    let len : length (got ++ (b ∷ [])) + m ≡ length got + suc m = rw (length-append got (b ∷ [])) (omega arith) in
    let one : suc m - 1 ≡ m = omega arith in
    let h = goes os t m (got ++ (b ∷ [])) (keep_of t (count_from 0 os)) refl _ (kept_with_data (keep_of t (count_from 0 os)) (join_options (kept_from 0 os)) t (length (got ++ (b ∷ [])) + m) b got) in
    rw (append_assoc (join_options os) (suc t ∷ (length got + suc m) ∷ got) (b ∷ []), one, ← len) h

-- ---- what is kept reads as all that was fed

unended : (os : List RplOption) (bs : List ℕ) → options bs ≡ none → options (join_options os ++ bs) ≡ none
unended os bs e = options-append os bs ∙ rw e

only_type : (t : ℕ) → options (suc t ∷ []) ≡ none
unfolding options options_up_to
only_type t = refl

too_few : (t m : ℕ) (got : List ℕ) → options (suc t ∷ (length got + suc m) ∷ got) ≡ none
too_few t m got = rw (options_step t (length got + suc m) got, lt-leb (length got + suc m) (length got) (omega arith))

part_none : (p : Keep) (t m : ℕ) (got : List ℕ) → options (part_kept p t (length got + suc m) got) ≡ none
part_none dropped t m got = only_type t
part_none emptied t m got = only_type t
part_none whole t m got = too_few t m got

-- two runs that are both cut short
both_cut : (a b : List ℕ) → options a ≡ none → options b ≡ none → read_run a ≡ read_run b
both_cut a b p q = read_by a ∙ ap read_as_options (p ∙ sym q) ∙ sym (read_by b)

holds_reads : (p : Phase) (n : ℕ) (k run : List ℕ) → Holds p n k run → read_run k ≡ read_run run
holds_reads p n k run (at_option os) =
    read_by (join_options (kept_from 0 os)) ∙ ap read_as_options (options_join (kept_from 0 os)) ∙ read_nine os (kept_from 0 os) (nine 0 os)
    ∙ sym (read_by (join_options os) ∙ ap read_as_options (options_join os))
holds_reads p n k run (at_type os t) = both_cut _ _ (unended (kept_from 0 os) (suc t ∷ []) (only_type t)) (unended os (suc t ∷ []) (only_type t))
holds_reads p n k run (in_option os t m got) =
    let q = keep_of t (count_from 0 os) in
    both_cut _ _ (unended (kept_from 0 os) (part_kept q t (length got + suc m) got) (part_none q t m got)) (unended os (suc t ∷ (length got + suc m) ∷ got) (too_few t m got))

feeds : (s : Feeding) (run bs : List ℕ) → HoldsFed s run → HoldsFed (feed s bs) (run ++ bs)
unfolding feed feed_byte
feeds s run [] h = rw (append-nil run) h
feeds s run (b ∷ bs) h =
    let x = feeds (feed_byte s b) (run ++ (b ∷ [])) bs (feed_holds s.phase s.count s.kept run b h) in
    rw (append_assoc run (b ∷ []) bs) at x

-- whatever the parts, what is kept reads as the whole run
pub fed_reads : (run : List ℕ) → read_run (feed unfed run).kept ≡ read_run run
unfolding join_options kept_from count_from
fed_reads run = let h = feeds unfed [] run (at_option []) in holds_reads _ _ _ run h
