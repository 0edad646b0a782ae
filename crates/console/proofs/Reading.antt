-- Laws of an array that is read to its end, part by part.
use Rattle.std.proofs.Common.{◌≡◌, ℕ, ◌+◌, ◌*◌, ◌%◌, ◌≤◌, ◌<◌, inl, inr, List, [], ◌∷◌, ◌++◌, Option, None, Some, IfSome, length, take, drop, refl, sym, ap, ◌∙◌, append_assoc, append-nil, arith}
use lib.Seq.{take-add, take-append-le, take_at, drop_at, drop-drop, length-take-le}
use borrow.Rule.Slice.PartMut.{put_mid, post_of}
use Rattle.std.proofs.lemmas.Slice.{take-put_mid_below}
use Rattle.std.proofs.lemmas.List.{drop_all}
use Rattle.std.proofs.lemmas.Bool.{cases_lt}
use Rattle.std.specs.Io.KnownBytes.{Consumes, IsAtEnd}
use Rattle.model.specs.Host.{words_of}
use Rattle.cells.specs.Table.{put}
use Rattle.console.specs.Words.{GivesWords}

-- a part written from a to the end: what stands up to n of it, and behind them
module _ (a k : ℕ) (xs ys : List ℕ) (h : a ≤ length xs) where
  behind : length xs ≤ a + k → drop a (put_mid a k xs ys) ≡ ys
  behind e =
      drop_at (take a xs) (ys ++ post_of a k xs) a (length-take-le a xs h)
      ∙ ap (λ (l : List ℕ). ys ++ l) (drop-drop k a xs ∙ drop_all (a + k) xs e)
      ∙ append-nil ys

  pub take-part : (n : ℕ) → n ≤ length ys → take (a + n) (put_mid a k xs ys) ≡ take a xs ++ take n ys
  take-part n l =
      take-add a n (put_mid a k xs ys)
      ∙ ap (λ (u : List ℕ). u ++ take n (drop a (put_mid a k xs ys))) (take-put_mid_below a k xs ys a (omega arith) h)
      ∙ ap (λ (v : List ℕ). take a xs ++ v)
      (ap (take n) (drop_at (take a xs) (ys ++ post_of a k xs) a (length-take-le a xs h)) ∙ take-append-le n ys (post_of a k xs) l)

  pub drop-part : (n : ℕ) → length xs ≤ a + k → drop (a + n) (put_mid a k xs ys) ≡ drop n ys
  drop-part n e = sym (drop-drop n a (put_mid a k xs ys)) ∙ ap (drop n) (behind e)

-- the front of what `put` leaves, and what is behind it
pub put-front : (d s : List ℕ) (n : ℕ) → n ≡ length s → take n (put d 0 s) ≡ s
unfolding put
put-front d s n e = take_at s (drop (0 + length s) d) n (sym e)

pub put-behind : (d s : List ℕ) (n : ℕ) → n ≡ length s → drop n (put d 0 s) ≡ drop n d
unfolding put
put-behind d s n e =
    let q : 0 + length s ≡ n = omega arith in
    drop_at s (drop (0 + length s) d) n (sym e) ∙ ap (λ (m : ℕ). drop m d) q

words-append : (bs cs : List ℕ) → length bs % 4 ≡ 0 → words_of (bs ++ cs) ≡ words_of bs ++ words_of cs
unfolding words_of
words-append [] cs h = refl
words-append (a ∷ []) cs h = absurd (omega arith)
words-append (a ∷ b ∷ []) cs h = absurd (omega arith)
words-append (a ∷ b ∷ c ∷ []) cs h = absurd (omega arith)
words-append (a ∷ b ∷ c ∷ d ∷ bs) cs h =
    ap (λ (l : List ℕ). (a + 256 * b + 65536 * c + 16777216 * d) ∷ l) (words-append bs cs (omega arith))

words-end : (bs : List ℕ) → words_of (bs ++ []) ≡ words_of bs ++ words_of []
unfolding words_of
words-end bs = ap words_of (append-nil bs) ∙ sym (append-nil (words_of bs))

pub gives-none : (a : Option (List ℕ)) → GivesWords a a []
gives-none None = tt
gives-none (Some xs) = refl

pub gives-more : (a b c : Option (List ℕ)) (ws vs : List ℕ) → GivesWords a b ws → GivesWords b c vs → GivesWords a c (ws ++ vs)
gives-more None b c ws vs p q = tt
gives-more (Some xs) None c ws vs p q = absurd p
gives-more (Some xs) (Some ys) None ws vs p q = absurd q
gives-more (Some xs) (Some ys) (Some zs) ws vs p q =
    p ∙ ap (λ (l : List ℕ). ws ++ l) q ∙ sym (append_assoc ws vs (words_of zs))

-- the words of bytes that are as many as were asked for, or the last
pub gives-read : (a b : Option (List ℕ)) (bs : List ℕ) → length bs ≤ 65536 → Consumes a b bs → (length bs < 65536 → IsAtEnd b) → GivesWords a b (words_of bs)
gives-read None b bs l p e = tt
gives-read (Some xs) None bs l p e = absurd p
gives-read (Some xs) (Some ys) bs l p e =
    ap words_of p
    ∙ (elim (cases_lt (length bs) 65536) [
      | inl h ↦ rw (e h) (words-end bs)
      | inr h ↦ words-append bs ys (omega arith)
    ])

-- words at the front are the first of all
pub gives-first : (a b : Option (List ℕ)) (ws : List ℕ) → GivesWords a b ws → IfSome a (λ xs. (vs : List ℕ) × (words_of xs ≡ ws ++ vs))
gives-first None b ws p = tt
gives-first (Some xs) None ws p = absurd p
gives-first (Some xs) (Some ys) ws p = (words_of ys, p)
