-- Lists of numbers within bounds, from bounds on the elements.
use Rattle.std.specs.Prelude.{◌&&◌, List, [], ◌∷◌, ℕ, T, ℤ, pos, get_or, set}
use Rattle.std.specs.Int.Signed.{le_z}
use Rattle.numbers.specs.In.{In, Each, Each2}
use Rattle.numbers.specs.Order.{In_wider}
use Rattle.numbers.specs.Know.{num, inside}
use Rattle.numbers.specs.Lists.{∷-keeps, set_keeps}

-- lists of numbers within bounds, from the numbers
pub each_[] : {l h : ℤ} → T (le_z l (pos 0) && le_z (pos 0) h) → Each l h []
each_[] {l} {h} t = record { at = λ i. In_wider (inside (num (pos 0))) t }

pub each_∷ : {l h x : ℤ} {xs : List ℤ} → In l h x → Each l h xs → Each l h (x ∷ xs)
each_∷ {l} {h} {x} {xs} p e = record { at = ∷-keeps (In l h) x xs (pos 0) p e.at }

pub each2_[] : {l h : ℤ} → T (le_z l (pos 0) && le_z (pos 0) h) → Each2 l h []
each2_[] t = record { at = λ i j. In_wider (inside (num (pos 0))) t }

pub each2_∷ : {l h : ℤ} {xs : List ℤ} {t : List (List ℤ)} → Each l h xs → Each2 l h t → Each2 l h (xs ∷ t)
each2_∷ {l} {h} {xs} {t} p e = record { at = ∷-keeps (λ (r : List ℤ). (j : ℕ) → In l h (get_or r j (pos 0))) xs t [] p.at e.at }

-- a store of a number within the bounds keeps a list within them
pub each_set : {l h x : ℤ} (xs : List ℤ) (i : ℕ) → Each l h xs → In l h x → Each l h (set xs i x)
each_set {l} {h} {x} xs i e p = record { at = set_keeps (In l h) xs i x (pos 0) p e.at }
