use Rattle.numbers.specs.Words.{◌*◌, arith, ◌≡◌, refl, sym, ◌∙◌, ap, true, leb}
use Rattle.reader.specs.Reading.{given, to_read, grow, decided_of}
use Rattle.reader.specs.ReadingLaws.{symbol_missing, symbol_is, from_part, decided_inside}
use Rattle.reader.proofs.boolean.Reader.read.Goals as goal
use Rattle.reader.proofs.boolean.Reader.read.Goals.{Joined-else-s-self, else-s-self-via-then-s-self+else-not-decided, else-s-self-via-else-s-self}

pub returns-then-not-decided : goal.returns-then-not-decided
returns-then-not-decided c = sym (ap to_read (symbol_missing _ _ _ (sym c.decided.ensures ∙ c.if-not-decided.true)))

-- past the test the symbol is decided: the place is inside, or `decided` said so
decided_here : (c : Joined-else-s-self) → (decided_of c.args.s.now c.args.self ≡ true)
decided_here c =
    elim c.else-s-self.branch [
      | else-s-self-via-then-s-self+else-not-decided w ↦ sym w.decided.ensures ∙ w.if-not-decided.false
      | else-s-self-via-else-s-self w ↦ decided_inside c.args.s.now c.args.self c.requires.placed c.requires.few w.if-s-self.false
    ]

pub grown-requires : goal.grown-requires
grown-requires c = rw c.part.ensures (from_part c.args.s.now c.args.self c.split-x.result c.requires (omega arith) (omega arith) _ refl)

pub returns : goal.returns
returns c =
    c.grown.ensures
    ∙ ap to_read
    (ap (λ q. given (leb (256 * c.split-x.result) c.args.self.window) (grow 7 c.args.s.now q)) c.part.ensures
    ∙ sym (symbol_is c.args.s.now c.args.self c.args.prob _ (decided_here (goal.at.returns c).Joined-else-s-self) c.split-x.ensures.0 _ refl))
