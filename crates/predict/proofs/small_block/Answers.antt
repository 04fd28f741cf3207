-- `small_block` meets its contract in the modes with a direction.
use Rattle.numbers.specs.Words.{ℕ, zero, suc, ◌≤◌, arith, ◌≡◌, refl, sym, ◌∙◌, ap, List}
use Rattle.predict.specs.Predict.{small_block_of, ve_block, rd_block, vr_block, ld_block, vl_block, hd_block}
use Rattle.predict.specs.Pieces.{stretched_of, twos_of, threes_of, both_of, picked_of}
use Rattle.predict.specs.PredictLaws.{directed_of, directed, he_directed, hu_directed, small_past}
use Rattle.predict.proofs.small_block.Goals as goal

-- the arm of mode k
way : (mode k : ℕ) (e : List ℕ) (i j : ℕ) (places : List ℕ) {f d t m r : List ℕ} → mode ≡ k
    → f ≡ stretched_of e → d ≡ twos_of f i → t ≡ threes_of f j → m ≡ both_of d t → r ≡ picked_of m places
    → directed_of e i j places ≡ small_block_of k e → r ≡ small_block_of mode e
way mode k e i j places n a b c d h g = directed e i j places a b c d h ∙ g ∙ ap (λ (x : ℕ). small_block_of x e) (sym n)

-- what the last arm knows: m is none of the numbers below n
abbrev None : ℕ → ℕ → Type 0
None m zero = Unit {0}
None m (suc n) = None m n × (m ≡ n → ⊥)

past : (m n : ℕ) → None m n → n ≤ m
past m zero p = omega arith
past m (suc n) p = let h = past m n p.0 in let f = p.1 in omega arith

pub returns-in-2 : goal.returns-in-2
unfolding ve_block
returns-in-2 c = way c.args.mode 2 c.args.e 0 5 _ c.in-2.is c.stretched-f.ensures c.twos.ensures c.threes.ensures c.both.ensures c.pick.ensures refl

pub returns-in-3 : goal.returns-in-3
returns-in-3 c = way c.args.mode 3 c.args.e 0 0 _ c.in-3.is c.stretched-f.ensures c.twos-in-3.ensures c.threes-in-3.ensures c.both-in-3.ensures c.pick-in-3.ensures (he_directed c.args.e)

pub returns-in-4 : goal.returns-in-4
unfolding rd_block
returns-in-4 c = way c.args.mode 4 c.args.e 0 1 _ c.in-4.is c.stretched-f.ensures c.twos-in-4.ensures c.threes-in-4.ensures c.both-in-4.ensures c.pick-in-4.ensures refl

pub returns-in-5 : goal.returns-in-5
unfolding vr_block
returns-in-5 c = way c.args.mode 5 c.args.e 5 2 _ c.in-5.is c.stretched-f.ensures c.twos-in-5.ensures c.threes-in-5.ensures c.both-in-5.ensures c.pick-in-5.ensures refl

pub returns-in-6 : goal.returns-in-6
unfolding ld_block
returns-in-6 c = way c.args.mode 6 c.args.e 0 6 _ c.in-6.is c.stretched-f.ensures c.twos-in-6.ensures c.threes-in-6.ensures c.both-in-6.ensures c.pick-in-6.ensures refl

pub returns-in-7 : goal.returns-in-7
unfolding vl_block
returns-in-7 c = way c.args.mode 7 c.args.e 6 6 _ c.in-7.is c.stretched-f.ensures c.twos-in-7.ensures c.threes-in-7.ensures c.both-in-7.ensures c.pick-in-7.ensures refl

pub returns-in-8 : goal.returns-in-8
unfolding hd_block
returns-in-8 c = way c.args.mode 8 c.args.e 1 1 _ c.in-8.is c.stretched-f.ensures c.twos-in-8.ensures c.threes-in-8.ensures c.both-in-8.ensures c.pick-in-8.ensures refl

pub returns-in_default : goal.returns-in_default
returns-in_default c =
    directed c.args.e 0 0 _ c.stretched-f.ensures c.twos-in_default.ensures c.threes-in_default.ensures c.both-in_default.ensures c.pick-in_default.ensures
    ∙ hu_directed c.args.e ∙ sym (small_past c.args.mode c.args.e (past _ 9 c.in_default.in_default-own.rest))
