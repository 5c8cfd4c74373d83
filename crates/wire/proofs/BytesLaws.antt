-- What is in front of bytes and what is left are the bytes.
use Rattle.std.proofs.Common.{◌≡◌, refl, ap, ◌+◌, ◌*◌, ◌≤◌, arith, ℕ, zero, suc, Bool, true, false, cond, List, [], ◌∷◌, ◌++◌, length, take, drop}
use mathlib.Core.List.{append_assoc}
use lib.ListN.{take-append-drop, length-append}
use lib.Seq.{length-take-le}
use Rattle.std.specs.Prelude.{leb}
use borrow.Author.Tests.{leb-true}
use Rattle.model.specs.Object.{object, join}
use Rattle.model.proofs.ObjectLaws.{join_four}
use Rattle.model.specs.Run.{pad1, option, join_options}
use Rattle.wire.specs.Front.{front_up_to, front, left_up_to, left}
use Rattle.wire.specs.Options.{options_front_up_to, options_front, options_left_up_to, options_left}
use Rattle.wire.specs.Yielded.{FrontBytes, OptionsBytes}

front_bytes_up_to : (k : ℕ) (bs : List ℕ) → join (front_up_to k bs) ++ left_up_to k bs ≡ bs
unfolding front_up_to left_up_to join
front_bytes_up_to zero bs = refl
front_bytes_up_to (suc k) [] = refl
front_bytes_up_to (suc k) (t ∷ []) = refl
front_bytes_up_to (suc k) (t ∷ f ∷ []) = refl
front_bytes_up_to (suc k) (t ∷ f ∷ m ∷ []) = refl
front_bytes_up_to (suc k) (t ∷ f ∷ m ∷ n ∷ rest) = go (front_bytes_up_to k (drop n rest)) (leb n (length rest)) refl
  where
    go : join (front_up_to k (drop n rest)) ++ left_up_to k (drop n rest) ≡ drop n rest → (b : Bool) → leb n (length rest) ≡ b
        → join (cond b (object t f m (take n rest) ∷ front_up_to k (drop n rest)) []) ++ cond b (left_up_to k (drop n rest)) (t ∷ f ∷ m ∷ n ∷ rest) ≡ t ∷ f ∷ m ∷ n ∷ rest
    go ih true e =
        rw (append_assoc (take n rest) (join (front_up_to k (drop n rest))) (left_up_to k (drop n rest)), ih, take-append-drop n rest, length-take-le n rest (leb-true n (length rest) e)) refl
    go ih false e = refl

pub front_bytes : FrontBytes
unfolding front left
front_bytes bs = front_bytes_up_to (length bs) bs

-- an object has four bytes or more, so there are few
pub front_room : (bs : List ℕ) → 4 * length (front bs) + length (left bs) ≤ length bs
front_room bs = omega (arith, join_four (front bs), length-append (join (front bs)) (left bs), ap length (front_bytes bs))

options_bytes_up_to : (k : ℕ) (bs : List ℕ) → join_options (options_front_up_to k bs) ++ options_left_up_to k bs ≡ bs
unfolding options_front_up_to options_left_up_to join_options
options_bytes_up_to zero bs = refl
options_bytes_up_to (suc k) [] = refl
options_bytes_up_to (suc k) (zero ∷ bs) = rw (options_bytes_up_to k bs) refl
options_bytes_up_to (suc k) (suc t ∷ []) = refl
options_bytes_up_to (suc k) (suc t ∷ n ∷ bs) = go (options_bytes_up_to k (drop n bs)) (leb n (length bs)) refl
  where
    go : join_options (options_front_up_to k (drop n bs)) ++ options_left_up_to k (drop n bs) ≡ drop n bs → (b : Bool) → leb n (length bs) ≡ b
        → join_options (cond b (option t (take n bs) ∷ options_front_up_to k (drop n bs)) []) ++ cond b (options_left_up_to k (drop n bs)) (suc t ∷ n ∷ bs) ≡ suc t ∷ n ∷ bs
    go ih true e =
        rw (append_assoc (take n bs) (join_options (options_front_up_to k (drop n bs))) (options_left_up_to k (drop n bs)), ih, take-append-drop n bs, length-take-le n bs (leb-true n (length bs) e)) refl
    go ih false e = refl

pub options_bytes : OptionsBytes
unfolding options_front options_left
options_bytes bs = options_bytes_up_to (length bs) bs
