use Rattle.numbers.specs.Words.{refl, sym, ◌∙◌, get_or, build_listed, built, rules}
use Rattle.samples.proofs.eight.eight_samples.Goals as goal

pub returns : goal.returns
returns c = sym (built c.args.s.now 8 (λ i. get_or c.args.s.now i 0) 0 (search rules) (λ i h. refl) ∙ build_listed 8 (λ i. get_or c.args.s.now i 0))
