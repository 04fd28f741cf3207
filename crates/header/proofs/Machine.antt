-- The header's entries as the machine reads them.
use Rattle.numbers.specs.Words.{ℕ, ◌≡◌, sym, ◌∙◌, ap, Bool, List, ℤ, pos, negsuc, Each, round, there, w32}
use Rattle.header.specs.Header.{entry, present_of}

-- an entry as the machine reads it, and what a test of it said
pub machine : (h : List ℤ) (i : ℕ) → Each (negsuc 254) (pos 255) h → round w32 (entry h i) ≡ entry h i
machine h i e = (there w32 (e.at i) tt).eq

pub said : (h : List ℤ) (i : ℕ) → Each (negsuc 254) (pos 255) h → {p q : Bool} → p ≡ present_of (round w32 (entry h i)) → p ≡ q → present_of (entry h i) ≡ q
said h i e f g = ap present_of (sym (machine h i e)) ∙ sym f ∙ g
