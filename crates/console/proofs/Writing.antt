-- Laws of the line that words make, word by word.
use Rattle.std.proofs.Common.{◌≡◌, ℕ, zero, suc, ◌+◌, ◌<◌, List, [], ◌∷◌, ◌++◌, Option, length, take, drop, get_or, refl, sym, ap, ◌∙◌, subst, append_assoc, append-nil, add-one, arith}
use Rattle.std.specs.Fmt.{decimal}
use Rattle.std.specs.Io.KnownBytes.{Appends}
use Rattle.std.proofs.KnownBytes.{Appends-trans}
use Rattle.console.specs.Words.{spaced}

-- one word more
spaced-more : (ws : List ℕ) (i : ℕ) → i < length ws → spaced (take (suc i) ws) ≡ spaced (take i ws) ++ 32 ∷ decimal (get_or ws i 0)
spaced-more [] i h = absurd (omega arith)
spaced-more (w ∷ ws) zero h = ap (λ (l : List ℕ). 32 ∷ l) (append-nil (decimal w))
spaced-more (w ∷ ws) (suc i) h =
    ap (λ (l : List ℕ). 32 ∷ l)
    (ap (λ (l : List ℕ). decimal w ++ l) (spaced-more ws i (omega arith)) ∙ sym (append_assoc (decimal w) (spaced (take i ws)) _))

-- the first word, and any later one
line-first : (ws : List ℕ) → 0 < length ws → decimal (get_or ws 0 0) ≡ drop 1 (spaced (take 1 ws))
line-first [] h = absurd (omega arith)
line-first (w ∷ ws) h = sym (append-nil (decimal w))

line-later : (ws : List ℕ) (i : ℕ) → suc i < length ws → drop 1 (spaced (take (suc i) ws)) ++ 32 ∷ decimal (get_or ws (suc i) 0) ≡ drop 1 (spaced (take (suc (suc i)) ws))
line-later [] i h = absurd (omega arith)
line-later (w ∷ ws) i h = sym (ap (drop 1) (spaced-more (w ∷ ws) (suc i) h))

pub line-more : (a b c : Option (List ℕ)) (ws : List ℕ) (i : ℕ) → i < length ws → Appends a b (drop 1 (spaced (take i ws))) → (i ≡ 0 → Appends b c (decimal (get_or ws i 0))) → (0 < i → Appends b c (32 ∷ decimal (get_or ws i 0))) → Appends a c (drop 1 (spaced (take (i + 1) ws)))
line-more a b c ws zero h p f l = subst (Appends a c) (line-first ws h) (Appends-trans a b c _ _ p (f refl))
line-more a b c ws (suc i) h p f l =
    let e = line-later ws i h ∙ ap (λ (n : ℕ). drop 1 (spaced (take n ws))) (sym (add-one (suc i))) in
    subst (Appends a c) e (Appends-trans a b c _ _ p (l (omega arith)))
