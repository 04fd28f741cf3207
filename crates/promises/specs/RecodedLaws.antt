-- A call that is answered 0, and the same with its two partitions written again elsewhere: it is answered 0, leaves the same memory, and reads the
-- same token symbols.
use Rattle.std.specs.Prelude.{◌+◌, ◌/◌, ◌≤◌, ◌<◌, ◌≡◌, ◌∷◌, ◌++◌}
use Rattle.numbers.specs.Words.{ℕ, zero, suc, arith, refl, sym, ◌∙◌, ap, subst, List, [], length, replicate}
use Rattle.reader.specs.declared.boolean.Reader.{Reader}
use Rattle.reader.specs.Reading.{given, missing, no_reader_of, first_reader, Reading, run, trace, Answers}
use Rattle.reader.specs.ReadingLaws.{Bytes, Valid, Each, Byte}
use Rattle.modes.specs.Modes.{modes_of}
use Rattle.header.specs.Frame.{factors_at}
use Rattle.residual.specs.Residual.{residual_of}
use Rattle.lent.specs.Memory.{Memory, sizes_of}
use Rattle.tile.specs.declared.Span.{Span}
use Rattle.tile.specs.Tile.{no_span, contents_of, span_at_of, token_contents, blocks_of, Inside}
use Rattle.tile.specs.PartitionsLaws.{span_at_lem, pick_below, readers_length, readers_at_lem, reader_first}
use Rattle.macroblock.specs.Macroblock.{Finished, Step, finished, no_modes, no_tokens}
use Rattle.choices.specs.Choices.{Call, refusal_of, number_of}
use Rattle.choices.specs.ChoicesLaws.{refusal_none, fine_side, fine_entries, fine_lengths}
use Rattle.picture.specs.Picture.{Picture, State, partition_of, step_at, next_of, pictured_of, begun_of, picture_of}
use Rattle.picture.specs.CallLaws.{picture_good, live_start}
use Rattle.writer.specs.EncoderLaws.{encoded}
use Rattle.recode.specs.Recode.{read_by, tokens_from, tokens_read, first_of, one_partition}
use Rattle.recode.specs.RecodeLaws.{tokens_finished, tokens_few}
use Rattle.recode.specs.PassLaws.{whole_fine, sound_start, picture_whole}
use Rattle.recode_frame.specs.RecodeFrame.{no_tops, all_modes}
use Rattle.recode_frame.specs.MovedLaws.{Beside, moved, MovedSame, moved_same, tops_start, all_modes_lem}
use Rattle.promises.specs.TwoRuns.{Twins, Same, found_same, step_same, next_same, all_alike}

-- ---- pictures that agree in every partition that is read have the same symbols
module _ {U : ℕ → Type 0} {P Q : Picture} (t : Twins U P Q) (b : ℕ) (used : (k : ℕ) → k < b → U (partition_of P k)) (inside : (k : ℕ) → k < b → partition_of P k < P.count) where
  symbols_same : {S T : State} → Same U S T → (k : ℕ) → k < b → read_by P k S ≡ read_by Q k T
  unfolding read_by
  symbols_same s k l =
      found_same t s k (used k l) (λ first tokens readers f table around place planes.
      elim (run (modes_of f.announced around.top.modes around.left.modes) first readers.first) [
        | missing ↦ []
        | given m r ↦ trace (residual_of table (factors_at f m.segment) m.small m.skip around.top.flags around.left.flags) tokens readers.token
      ])

  tokens_alike : (n k : ℕ) (S T : State) → k + n ≤ b → Same U S T → tokens_from n P k S ≡ tokens_from n Q k T
  unfolding tokens_from
  tokens_alike zero k S T h s = refl
  tokens_alike (suc n) k S T h s = go (λ x. tokens_alike n (k + 1) (next_of P k S x) (next_of Q k T x) (omega arith)) (step_at P k S) refl
    where
      l : k < b
      l = omega arith

      also : {x : Step} → step_at P k S ≡ x → step_at Q k T ≡ x
      also e = sym (step_same t s k (used k l)) ∙ e

      go : ((x : Finished) → Same U (next_of P k S x) (next_of Q k T x) → tokens_from n P (k + 1) (next_of P k S x) ≡ tokens_from n Q (k + 1) (next_of Q k T x)) → (x : Step) → step_at P k S ≡ x → tokens_from (suc n) P k S ≡ tokens_from (suc n) Q k T
      go ih (finished x) e =
          let h = ih x (next_same t s k (used k l) (inside k l) x) in
          tokens_finished P k S n e ∙ (λ i. symbols_same s k l i ++ h i) ∙ sym (tokens_finished Q k T n (also e))
      go ih no_modes e = rw (e, also e, tokens_from) (symbols_same s k l)
      go ih no_tokens e = rw (e, also e, tokens_from) (symbols_same s k l)

-- ---- the call with its partitions elsewhere, one of tokens
abbrev pub moved_call : Call → List ℕ → (first token : Span) → Reader → Call
moved_call c bytes first token reader =
    record {
      bytes = bytes;
      tile = record { first = first; tokens = token ∷ replicate 7 no_span; reader = reader; count = 1; width = c.tile.width; height = c.tile.height };
      header = c.header;
      form = c.form;
    }

-- what lies there: a first partition f whose reader answers the symbols of the modes, and the token partition
pub record Lies (c : Call) (m : Memory) (bytes : List ℕ) (first token : Span) (reader : Reader) (f : List ℕ) : Type 0 where
  pub first_in : Inside (length bytes) first
  pub first_is : contents_of bytes first ≡ f
  pub token_in : Inside (length bytes) token
  pub token_is : contents_of bytes token ≡ one_partition c m
  pub valid : Valid f reader
  pub last : Reader
  pub modes : Answers f reader (trace (all_modes c) (first_of c) c.tile.reader) last

-- ---- a call that is answered 0
module _ (c : Call) (m : Memory) (y : Bytes c.bytes) (z : number_of (picture_of c m).answer ≡ 0) where
  pub not_refused : refusal_of c (sizes_of m) ≡ 0
  not_refused = whole_fine c m (picture_whole c m z).same

  -- the symbols: each has a byte for its probability
  pub token_bytes : Each Byte (tokens_read c m)
  unfolding tokens_read
  token_bytes = (tokens_few (sound_start c m not_refused y) (blocks_of c.tile.width c.tile.height) 0 (begun_of c m) (live_start c m not_refused y) (omega arith)).bytes

  module _ {bytes : List ℕ} {first token : Span} {reader : Reader} {f : List ℕ} (d : Lies c m bytes first token reader f) where
    abbrev call : Call
    call = moved_call c bytes first token reader

    token_at : span_at_of call.tile 0 ≡ token
    token_at = span_at_lem call.tile 0 (omega arith)

    token_part : token_contents bytes call.tile 0 ≡ one_partition c m
    token_part = ap (contents_of bytes) token_at ∙ d.token_is

    pub moved_fine : refusal_of call (sizes_of m) ≡ 0
    moved_fine =
        let l = fine_lengths c (sizes_of m) not_refused in
        sym (refusal_none call (sizes_of m) (fine_side c (sizes_of m) not_refused) (record { least = omega arith; most = omega arith }) (fine_entries c (sizes_of m) not_refused) (record { sizes = l.sizes; header = l.header })
        (record { first = d.first_in; tokens = here; reader = subst (λ (l : List ℕ). Valid l reader) (sym d.first_is) d.valid }))
      where
        here : (i : ℕ) → i < 1 → Inside (length bytes) (span_at_of call.tile i)
        here zero l = subst (Inside (length bytes)) (sym token_at) d.token_in
        here (suc i) l = absurd (omega arith)

    begins : Beside (begun_of c m) (begun_of call m) reader (first_reader (one_partition c m))
    begins = record {
      reader = refl;
      left = refl;
      mem = refl;
      eight = readers_length bytes call.tile;
      token = readers_at_lem bytes call.tile 0 no_reader_of (omega arith) ∙ reader_first bytes call.tile 0 (omega arith) ∙ ap first_reader token_part;
    }

    -- the other token partitions are not read
    twins : Twins (λ (q : ℕ). q ≡ 0) (moved (pictured_of c) f (one_partition c m)) (pictured_of call)
    twins = record {
      first = sym d.first_is;
      count = refl;
      few = omega arith;
      frame = refl;
      table = refl;
      wide = refl;
      form = refl;
      token = λ q v. sym (ap (token_contents bytes call.tile) v ∙ token_part);
    }

    alike : Same (λ (q : ℕ). q ≡ 0) (begun_of call m) (begun_of call m)
    alike = record { reader = refl; eight = begins.eight; eight' = begins.eight; readers = λ q v. refl; left = refl; mem = refl }

    used : (k : ℕ) → k < blocks_of c.tile.width c.tile.height → partition_of (moved (pictured_of c) f (one_partition c m)) k ≡ 0
    used k l = omega (arith, pick_below (k / (c.tile.width / 16)) 1 (omega arith))

    below : (k : ℕ) → k < blocks_of c.tile.width c.tile.height → partition_of (moved (pictured_of c) f (one_partition c m)) k < 1
    below k l = omega (arith, used k l)

    all : MovedSame (blocks_of c.tile.width c.tile.height) (pictured_of c) f (one_partition c m) 0 (begun_of c m) (begun_of call m)
    unfolding tokens_read
    all =
        let w = (picture_whole c m z).same in
        let e = (encoded (tokens_read c m) token_bytes).read in
        let a = subst (λ (g : Reading (Unit {0})). Answers f reader (trace g (first_of c) c.tile.reader) d.last) (sym (all_modes_lem c m not_refused)) d.modes in
        moved_same (blocks_of c.tile.width c.tile.height) (pictured_of c) f (one_partition c m) 0 (begun_of c m) (begun_of call m) reader (first_reader (one_partition c m)) d.last e.last no_tops (replicate 4 0)
        (sound_start c m not_refused y) (live_start c m not_refused y) (omega arith) (tops_start c m not_refused) begins a e.answers (sym (picture_good c m refl not_refused) ∙ w)

    -- THE LAWS: the same picture, the same token symbols
    pub moved_picture : picture_of call m ≡ picture_of c m
    moved_picture =
        let N : ℕ = blocks_of c.tile.width c.tile.height in
        picture_good call m refl moved_fine ∙ sym (all_alike twins N used below alike N (omega arith)) ∙ all.picture ∙ sym (picture_good c m refl not_refused)

    pub moved_tokens : tokens_read call m ≡ tokens_read c m
    unfolding tokens_read
    moved_tokens =
        let N : ℕ = blocks_of c.tile.width c.tile.height in
        sym (tokens_alike twins N used below N 0 (begun_of call m) (begun_of call m) (omega arith) alike) ∙ all.tokens
