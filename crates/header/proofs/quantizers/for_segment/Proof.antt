use Rattle.numbers.specs.Words.{◌≡◌, Some, sym, ◌∙◌, ap, true, not-false, not-true, rules}
use Rattle.header.specs.Header.{header_of}
use Rattle.header.specs.HeaderLaws.{header_length, header_each}
use Rattle.header.specs.QuantizersLaws.{segment_good, segment_header, segment_none}
use Rattle.header.proofs.quantizers.for_segment.Statement.{statement}
use Rattle.header.proofs.quantizers.for_segment.Tie as tie
use Rattle.header.proofs.quantizers.for_segment.Reads as reads
use Rattle.header.proofs.quantizers.for_segment.Lts as lts
use Rattle.header.proofs.entries.header_fine.Reads as header-fine-reads
use Rattle.header.proofs.quantizers.six.Reads as six-reads

header-fine-requires : tie.Need-header_fine-requires
header-fine-requires c κs = search rules

returns : tie.Need-returns-then-not-header_fine
returns c = segment_header _ _ (sym c.header_fine.ensures ∙ not-true _ c.if-not-header_fine.true-raw)

returns-2 : tie.Need-returns-then-segment-ge4
returns-2 c = segment_none _ _ c.if-segment-ge4.true

fine : (c : tie.Else-segment-ge4) → header_of c.args.h.now ≡ true
fine c = sym c.header_fine.ensures ∙ not-false _ c.if-not-header_fine.false-raw

six-requires : tie.Need-six-requires
six-requires c κs = ((header_length _ (fine c), search rules), header_each _ (fine c))

returns-3 : tie.Need-returns
returns-3 c = ap Some c.six.ensures ∙ sym (segment_good _ _ (fine c.before) (search rules))

pub for_segment_spec : {M : Type 1} → statement M
for_segment_spec = tie.close (tie.spec header-fine-requires returns returns-2 six-requires returns-3)
