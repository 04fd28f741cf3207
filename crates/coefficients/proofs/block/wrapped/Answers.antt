-- `wrapped` meets its contract: within its bounds `wrap16` never refuses.
use Rattle.numbers.specs.Words.{◌≡◌, Option, Some, ◌∙◌, ap, ℤ, pos, there, answered, wrap_z, wrap16_of, wrap_in, wrapped_good, w32, w64}
use Rattle.std.specs.Prelude.{unwrap_or}
use Rattle.coefficients.proofs.block.wrapped.Goals as goal

pub returns : goal.returns
returns c =
    let e : c.wrap16.result ≡ Some (wrap_z c.args.x) = c.wrap16.ensures ∙ ap wrap16_of (there w64 c.requires tt).eq ∙ wrapped_good c.requires in
    (answered w32 (c.unwrap_or.ensures ∙ ap (λ (o : Option ℤ). unwrap_or o (pos 0)) e) (wrap_in c.args.x) tt).eq
