-- `predict` meets its contract, mode by mode.
use Rattle.numbers.specs.Words.{ℕ, ◌<◌, arith, ◌≡◌}
use Rattle.planes.specs.Places.{size_some}
use Rattle.planes.specs.PiecesLaws.{predicted_mean, predicted_tm, predicted_above, predicted_left}
use Rattle.planes.proofs.put.predict.Goals as goal

last : {m : ℕ} → m < 4 → (m ≡ 0 → ⊥) → (m ≡ 1 → ⊥) → (m ≡ 2 → ⊥) → m ≡ 3
last h f g i = omega arith

pub edge-e-requires : goal.edge-e-requires
edge-e-requires c = record { square = c.requires.square; size_bound = (size_some c.requires.size).1 }

pub returns-in-0 : goal.returns-in-0
returns-in-0 c = predicted_mean _ _ _ _ _ _ c.edge-e.ensures c.requires.size c.in-0.is c.large_dc.ensures c.put_same.ensures

pub returns-in-1 : goal.returns-in-1
returns-in-1 c = predicted_tm _ _ _ _ _ _ c.edge-e.ensures c.in-1.is c.put_tm.ensures

pub returns-in-2 : goal.returns-in-2
returns-in-2 c = predicted_above _ _ _ _ _ _ c.edge-e.ensures c.in-2.is c.put_same-in-2.ensures

pub returns-in_default : goal.returns-in_default
returns-in_default c =
    let e : c.args.mode ≡ 3 = last c.requires.mode_bound c.in_default.in_default-own.rest.0.0.1 c.in_default.in_default-own.rest.0.1 c.in_default.in_default-own.rest.1 in
    predicted_left _ _ _ _ _ _ c.edge-e.ensures e c.put_left.ensures
