-- A key frame's bytes recoded into a key frame's bytes with one token partition: what is taken of the result is the same header but for the count,
-- the places and the reader; it shows the same picture, all memory; and recoding it again gives the same bytes. `recode_frame_of` is the definition
-- that the contract of `recode_frame` equals (crates/recode_frame/specs/RecodeFrame.antt).
use Rattle.std.specs.Prelude.{◌+◌, ◌-◌, ◌≤◌, ◌<◌, ◌≡◌, ◌⊎◌, ◌∷◌, ◌++◌}
use Rattle.numbers.specs.Words.{ℕ, arith, refl, sym, ◌∙◌, ap, subst, true, false, not, inl, inr, ⊎_elim, eqb, lt_or, eq_or, List, length, take, drop, replicate, take-append_seam, ℤ}
use Rattle.reader.specs.ReadingLaws.{Bytes, retraced}
use Rattle.reader.specs.Reading.{trace}
use Rattle.header.specs.Header.{frame_level, present_at_of}
use Rattle.lent.specs.Memory.{Memory, sizes_of, packed}
use Rattle.lent.specs.Memory as L
use Rattle.tile.specs.Tile.{no_span, blocks_of}
use Rattle.tile.specs.PartitionsLaws.{part_bytes}
use Rattle.choices.specs.Choices.{Call, call_of, refusal_of, number_of, values_of}
use Rattle.choices.specs.ChoicesLaws.{fine_lengths}
use Rattle.picture.specs.Picture.{Ended, planes_in, pictured_of, start_of, picture_of}
use Rattle.deblock.specs.Deblock.{deblock_of}
use Rattle.writer.specs.Encoder.{encode_of}
use Rattle.recode.specs.Recode.{tokens_from, tokens_read, first_of, one_partition}
use Rattle.frame.specs.declared.take.Taken.{Taken}
use Rattle.frame.specs.Take.{taken_of}
use Rattle.frame.specs.PassesLaws.{TakenRead, taken_read, taken_is_fine, taken_or_refused}
use Rattle.frame.specs.OneLaws.{one_taken, taken_one}
use Rattle.recode_frame.specs.RecodeFrame.{header_symbols, all_modes, new_first, new_head, taken_call, recoded_frame, frame_refused, frame_decoded, recode_frame_of, FrameEnded, frame_ended}
use Rattle.recode_frame.specs.FirstLaws.{Sized}
use Rattle.recode_frame.specs.AgainLaws.{ReadAgain, first_again}
use Rattle.recode_frame.specs.MovedLaws.{call_modes}
use Rattle.recode_frame.specs.RecodeFrameLaws.{decoded_told, decoded_long, decoded_full, decoded_written, frame_untaken, frame_taken_lem}
use Rattle.recode_frame.specs.FrameLaws.{whole_long, whole_retagged, whole_first, whole_tokens, head_again}
use Rattle.key_frame.specs.KeyFrame.{frame_planes, with_planes, KeyFramed, shown_frame, key_frame_of}
use Rattle.key_frame.specs.KeyFrameLaws.{key_frame_is}
use Rattle.promises.specs.Refusals.{refused_changes_nothing, first_check_decides, blank_same, old_memory_does_not_matter}
use Rattle.promises.specs.Frame.{taken_answers}
use Rattle.promises.specs.RecodedLaws.{moved_call, Lies, not_refused, moved_fine, moved_picture, moved_tokens}
use Rattle.recode_frame.specs.declared.FrameRecoded.{FrameRecoded}

-- a frame that can be recoded: it is taken, its picture is answered 0, and its new first partition has a size that the tag can tell
pub record Recodes (b : List ℕ) (m : Memory) : Type 0 where
  pub taken : (taken_of b).answer.number ≡ 0
  pub decoded : number_of (picture_of (taken_call b) m).answer ≡ 0
  pub short : length (new_first (taken_call b)) ≤ 524287

-- what is taken of two frames is the same, but for the count, which is 1, the places of the partitions, n and k bytes long, and the reader
pub record SameButPlaces (n k : ℕ) (t u : Taken) : Type 0 where
  pub number : u.answer.number ≡ 0
  pub entries : u.header ≡ t.header
  pub shown : u.answer.shown ≡ t.answer.shown
  pub simple : u.answer.simple ≡ t.answer.simple
  pub tile : u.answer.tile ≡ record {
    first = record { start = 10; len = n };
    tokens = record { start = 10 + n; len = k } ∷ replicate 7 no_span;
    reader = u.answer.tile.reader;
    count = 1;
    width = t.answer.tile.width;
    height = t.answer.tile.height;
  }

-- two frames show the same: number, macroblocks, entries, and all memory
pub record SameShown (E F : KeyFramed) : Type 0 where
  pub number : F.answer.number ≡ E.answer.number
  pub finished : F.answer.finished ≡ E.answer.finished
  pub header : F.header ≡ E.header
  pub mem : F.mem ≡ E.mem

-- the symbols do not hang on what the lent memory held
tokens_anywhere : (c : Call) (m n : Memory) → sizes_of m ≡ sizes_of n → tokens_read c m ≡ tokens_read c n
unfolding tokens_read
tokens_anywhere c m n e = ap (λ (b : Memory). tokens_from (blocks_of c.tile.width c.tile.height) (pictured_of c) 0 (start_of c.bytes c.tile b)) (blank_same m n e)

-- ---- the frame that is written
module _ (b : List ℕ) (m : Memory) (y : Bytes b) (r : Recodes b m) where
  abbrev call : Call
  call = taken_call b

  abbrev first : List ℕ
  first = new_first call

  abbrev tokens : List ℕ
  tokens = one_partition call m

  abbrev new : List ℕ
  new = recoded_frame b m

  read : TakenRead b (taken_of b)
  read = taken_read b r.taken

  sized : Sized call.tile
  sized = let s = (taken_is_fine b y r.taken).sides in record { wide = s.width.least; width = s.width.most; height = s.height.most }

  again : ReadAgain (first_of call) call.tile call.header read.coded
  again = first_again (first_of call) call.tile call.header (part_bytes b call.tile.first y) sized read.gives

  new_taken : taken_of new ≡ one_taken (taken_of b) (length first) (length new) again.new again.reader
  unfolding new_first
  new_taken = taken_one (whole_retagged b first tokens read.long r.short) r.taken again.long (sym (whole_first b first tokens read.long)) again.new again.reader again.gives again.count

  behind : length new - (10 + length first) ≡ length tokens
  behind = omega (arith, whole_long b first tokens read.long)

  -- THE PROMISE: its header is the same
  pub recoded_header : SameButPlaces (length first) (length tokens) (taken_of b) (taken_of new)
  recoded_header =
      subst (SameButPlaces (length first) (length tokens) (taken_of b)) (sym new_taken)
      (record {
        number = refl;
        entries = again.entries' ∙ sym read.listed;
        shown = refl;
        simple = ap (λ (k : ℕ). not (eqb k 0)) again.kind ∙ sym read.simple;
        tile = λ i. record {
          first = record { start = 10; len = length first };
          tokens = record { start = 10 + length first; len = behind i } ∷ replicate 7 no_span;
          reader = again.reader;
          count = 1;
          width = (taken_of b).answer.tile.width;
          height = (taken_of b).answer.tile.height;
        };
      })

  -- the call that is taken of it is the old one, moved
  abbrev other : Call
  other = moved_call call new (record { start = 10; len = length first }) (record { start = 10 + length first; len = length tokens }) again.reader

  call_is : taken_call new ≡ other
  call_is =
      ap (λ (t : Taken). call_of new t.answer.tile t.header) new_taken
      ∙ (λ i. call_of new
      (record {
        first = record { start = 10; len = length first };
        tokens = record { start = 10 + length first; len = behind i } ∷ replicate 7 no_span;
        reader = again.reader;
        count = 1;
        width = (taken_of b).answer.tile.width;
        height = (taken_of b).answer.tile.height;
      })
      ((again.entries' ∙ sym read.listed) i))

  lies : Lies call m new (record { start = 10; len = length first }) (record { start = 10 + length first; len = length tokens }) again.reader first
  unfolding new_first
  lies =
      let l = whole_long b first tokens read.long in
      record {
        first_in = record { fits = omega (arith, l) };
        first_is = whole_first b first tokens read.long;
        token_in = record { fits = omega (arith, l) };
        token_is = whole_tokens b first tokens read.long;
        valid = again.valid;
        last = again.last;
        modes = again.modes;
      }

  -- THE PROMISE: in any memory of these sizes its picture is the same, answer and all memory
  pub recoded_picture : (n : Memory) → sizes_of n ≡ sizes_of m → picture_of (taken_call new) n ≡ picture_of (taken_call b) m
  recoded_picture n e =
      let g : refusal_of other (sizes_of m) ≡ 0 = moved_fine call m y r.decoded lies in
      ap (λ (u : Call). picture_of u n) call_is ∙ old_memory_does_not_matter other n m (ap (refusal_of other) e ∙ g) g ∙ moved_picture call m y r.decoded lies

  new_fine : (n : Memory) → sizes_of n ≡ sizes_of m → refusal_of (taken_call new) (sizes_of n) ≡ 0
  new_fine n e = (λ i. refusal_of (call_is i) (e i)) ∙ moved_fine call m y r.decoded lies

  -- THE PROMISE: so is what it shows, the loop filter after the picture, with the entries of the header
  pub recoded_shown : (old other : List ℤ) → length old ≡ 1096 → length other ≡ 1096 → (n : Memory) → sizes_of n ≡ sizes_of m → SameShown (key_frame_of b old m) (key_frame_of new other n)
  unfolding frame_planes
  recoded_shown old other k l n e =
      let h = recoded_header in
      let p = recoded_picture n e in
      let s : key_frame_of b old m ≡ shown_frame b m = key_frame_is b old m {t = taken_of b} refl k r.taken {bad = 0} (sym (not_refused call m y r.decoded)) refl in
      let t : key_frame_of new other n ≡ shown_frame new n = key_frame_is new other n {t = taken_of new} refl l h.number {bad = 0} (sym (new_fine n e)) refl in
      rw (s, t)
      (record {
        number = ap (λ (o : Ended). number_of o.answer) p;
        finished = ap (λ (o : Ended). values_of o.answer) p;
        header = h.entries;
        mem = λ i. with_planes (p i).mem
            (elim (present_at_of (h.entries i) frame_level) [
              | true ↦ (deblock_of (planes_in (p i).mem) (p i).mem.strengths (h.tile i).width (h.tile i).height (h.simple i)).planes
              | false ↦ planes_in (p i).mem
            ]);
      })

  -- ---- recoded again
  first_same : new_first (taken_call new) ≡ first
  unfolding new_first
  first_same =
      let w = whole_first b first tokens read.long in
      ap new_first call_is
      ∙ (λ i. encode_of (header_symbols (w i) ++ trace (all_modes call) (w i) again.reader))
      ∙ (λ i. encode_of (again.symbols i ++ retraced (all_modes call) (first_of call) call.tile.reader (call_modes call m y r.decoded).gives again.modes i))

  tokens_same : (n : Memory) → sizes_of n ≡ sizes_of m → one_partition (taken_call new) n ≡ tokens
  tokens_same n e = ap (λ (u : Call). one_partition u n) call_is ∙ ap encode_of (tokens_anywhere other n m e ∙ moved_tokens call m y r.decoded lies)

  -- THE PROMISE: the same bytes
  pub recoded_again : (n : Memory) → sizes_of n ≡ sizes_of m → recoded_frame new n ≡ new
  recoded_again n e =
      (λ i. new_head new (length (first_same i)) ++ (first_same i ++ tokens_same n e i))
      ∙ ap (λ (h : List ℕ). h ++ (first ++ tokens)) (head_again b (length first) (first ++ tokens) read.long r.short)

  pub recodes_again : (n : Memory) → sizes_of n ≡ sizes_of m → Recodes new n
  recodes_again n e = record {
    taken = recoded_header.number;
    decoded = ap (λ (o : Ended). number_of o.answer) (recoded_picture n e) ∙ r.decoded;
    short = subst (λ (l : List ℕ). length l ≤ 524287) (sym first_same) r.short;
  }

-- ---- the call: each number exactly where it must be
pub record RecodeFrameEnds (b : List ℕ) (m : Memory) (out : List ℕ) : Type 0 where
  -- 12, 13, 14: the header is not taken; nothing changes
  pub untaken : ((taken_of b).answer.number ≡ 0 → ⊥) → recode_frame_of b m out ≡ frame_refused (taken_of b).answer.number m out
  pub numbers : ((taken_of b).answer.number ≡ 0) ⊎ ((taken_of b).answer.number ≡ 12) ⊎ ((taken_of b).answer.number ≡ 13) ⊎ ((taken_of b).answer.number ≡ 14)
  -- 4: a lent length is not what the frame's size asks; nothing changes
  pub four : (taken_of b).answer.number ≡ 0 → (L.Sized packed (taken_of b).answer.tile.width (taken_of b).answer.tile.height (sizes_of m) → ⊥) → recode_frame_of b m out ≡ frame_refused 4 m out
  -- else the picture call's number, 0, 6 or 7, and its memory; where it is not 0 the room is as it was
  pub pictured : (taken_of b).answer.number ≡ 0 → L.Sized packed (taken_of b).answer.tile.width (taken_of b).answer.tile.height (sizes_of m)
      → let n = number_of (picture_of (taken_call b) m).answer in (n ≡ 0) ⊎ (n ≡ 6) ⊎ (n ≡ 7)
  pub stopped : (taken_of b).answer.number ≡ 0 → (number_of (picture_of (taken_call b) m).answer ≡ 0 → ⊥) → recode_frame_of b m out ≡ frame_refused (number_of (picture_of (taken_call b) m).answer) (picture_of (taken_call b) m).mem out
  -- 18: the tag cannot tell the first partition's size
  pub eighteen : (taken_of b).answer.number ≡ 0 → number_of (picture_of (taken_call b) m).answer ≡ 0 → 524287 < length (new_first (taken_call b)) → recode_frame_of b m out ≡ frame_refused 18 (picture_of (taken_call b) m).mem out
  -- 16: the frame exceeds the room
  pub sixteen : Recodes b m → length out < length (recoded_frame b m) → recode_frame_of b m out ≡ frame_refused 16 (picture_of (taken_call b) m).mem out
  -- 0: the frame at the start of the room, and what lies behind it as it was
  pub written : Recodes b m → length (recoded_frame b m) ≤ length out
      → recode_frame_of b m out ≡ frame_ended (record { number = 0; len = length (recoded_frame b m) }) (picture_of (taken_call b) m).mem (recoded_frame b m ++ drop (length (recoded_frame b m)) out)

module _ (b : List ℕ) (m : Memory) (out : List ℕ) where
  untaken : ((taken_of b).answer.number ≡ 0 → ⊥) → recode_frame_of b m out ≡ frame_refused (taken_of b).answer.number m out
  untaken h = sym (frame_untaken b m out {t = taken_of b} refl h refl)

  module _ (t : (taken_of b).answer.number ≡ 0) where
    taken : {x : FrameEnded} → frame_decoded b m out ≡ x → recode_frame_of b m out ≡ x
    taken e = sym (frame_taken_lem b m out {t = taken_of b} refl t (sym e))

    stopped : (number_of (picture_of (taken_call b) m).answer ≡ 0 → ⊥) → recode_frame_of b m out ≡ frame_refused (number_of (picture_of (taken_call b) m).answer) (picture_of (taken_call b) m).mem out
    stopped h = taken (decoded_told b m out h)

    eighteen : number_of (picture_of (taken_call b) m).answer ≡ 0 → 524287 < length (new_first (taken_call b)) → recode_frame_of b m out ≡ frame_refused 18 (picture_of (taken_call b) m).mem out
    eighteen e h = taken (decoded_long b m out e h)

  module _ (r : Recodes b m) where
    sixteen : length out < length (recoded_frame b m) → recode_frame_of b m out ≡ frame_refused 16 (picture_of (taken_call b) m).mem out
    sixteen h =
        let l = (taken_read b r.taken).long in
        taken r.taken (decoded_full b m out r.decoded l r.short (omega (arith, h, whole_long b (new_first (taken_call b)) (one_partition (taken_call b) m) l)))

    written : length (recoded_frame b m) ≤ length out
        → recode_frame_of b m out ≡ frame_ended (record { number = 0; len = length (recoded_frame b m) }) (picture_of (taken_call b) m).mem (recoded_frame b m ++ drop (length (recoded_frame b m)) out)
    written h = taken r.taken (decoded_written b m out r.decoded (taken_read b r.taken).long r.short h)

  -- THE PROMISE: every frame ends so
  pub recode_frame_ends : Bytes b → RecodeFrameEnds b m out
  recode_frame_ends y = record {
    untaken = untaken;
    numbers = ⊎_elim (λ z. inl z) (λ r. inr r.number) (taken_or_refused b);
    four = λ t n.
        let p = taken_is_fine b y t in
        let d : number_of (picture_of (taken_call b) m).answer ≡ 4 = (first_check_decides (taken_call b) m).four p.sides p.counted p.each (λ l. n l.sizes) in
        let u : (picture_of (taken_call b) m).mem ≡ m = (refused_changes_nothing (taken_call b) m (λ e. n (fine_lengths (taken_call b) (sizes_of m) e).sizes)).unchanged in
        stopped t (λ e. let z : 4 ≡ 0 = sym d ∙ e in omega arith) ∙ (λ i. frame_refused (d i) (u i) out);
    pictured = λ t s. taken_answers b y t m s;
    stopped = stopped;
    eighteen = eighteen;
    sixteen = sixteen;
    written = written;
  }

  -- ---- where the call answers 0
  record Zero : Type 0 where
    recodes : Recodes b m
    fits : length (recoded_frame b m) ≤ length out

  not_zero : {k : ℕ} {x : Memory} {C : Type 0} → (recode_frame_of b m out).answer.number ≡ 0 → (k ≡ 0 → ⊥) → recode_frame_of b m out ≡ frame_refused k x out → C
  not_zero f h e = absurd (h (sym (ap (λ (x : FrameEnded). x.answer.number) e) ∙ f))

  zero_only : (recode_frame_of b m out).answer.number ≡ 0 → Zero
  zero_only f = ⊎_elim pictured (λ h. not_zero f h (untaken h)) (eq_or (taken_of b).answer.number 0)
    where
      placed : Recodes b m → Zero
      placed r = ⊎_elim (λ h. not_zero f (λ (e : 16 ≡ 0). omega arith) (sixteen r h)) (λ h. record { recodes = r; fits = h }) (lt_or (length out) (length (recoded_frame b m)))

      told : (taken_of b).answer.number ≡ 0 → number_of (picture_of (taken_call b) m).answer ≡ 0 → Zero
      told t e = ⊎_elim (λ h. not_zero f (λ (e : 18 ≡ 0). omega arith) (eighteen t e h)) (λ h. placed (record { taken = t; decoded = e; short = h })) (lt_or 524287 (length (new_first (taken_call b))))

      pictured : (taken_of b).answer.number ≡ 0 → Zero
      pictured t = ⊎_elim (told t) (λ h. not_zero f h (stopped t h)) (eq_or (number_of (picture_of (taken_call b) m).answer) 0)

-- what the call left, x, of a frame b: the file is the room cut to the length that it answers
pub record FrameSame (b : List ℕ) (m : Memory) (x : FrameEnded) (file : List ℕ) : Type 0 where
  pub long : length file ≡ x.answer.len
  pub header : SameButPlaces (length (new_first (taken_call b))) (length (one_partition (taken_call b) m)) (taken_of b) (taken_of file)
  pub picture : (n : Memory) → sizes_of n ≡ sizes_of m → picture_of (taken_call file) n ≡ picture_of (taken_call b) m
  pub shown : (old other : List ℤ) → length old ≡ 1096 → length other ≡ 1096 → (n : Memory) → sizes_of n ≡ sizes_of m → SameShown (key_frame_of b old m) (key_frame_of file other n)
  -- recoded again into any room that is long enough: the same answer, the same memory, the same bytes
  pub again : (n : Memory) → sizes_of n ≡ sizes_of m → (room : List ℕ) → x.answer.len ≤ length room → recode_frame_of file n room ≡ frame_ended x.answer x.mem (file ++ drop x.answer.len room)

-- THE PROMISE
pub recode_frame_same : (b : List ℕ) (m : Memory) (out : List ℕ) → Bytes b → (recode_frame_of b m out).answer.number ≡ 0 → let x = recode_frame_of b m out in FrameSame b m x (take x.answer.len x.out)
recode_frame_same b m out y f =
    let z = zero_only b m out f in
    let r = z.recodes in
    let new : List ℕ = recoded_frame b m in
    let end : FrameEnded = frame_ended (record { number = 0; len = length new }) (picture_of (taken_call b) m).mem (new ++ drop (length new) out) in
    let cut : take (length new) (new ++ drop (length new) out) ≡ new = take-append_seam new (drop (length new) out) in
    subst (λ (x : FrameEnded). FrameSame b m x (take x.answer.len x.out)) (sym (written b m out r z.fits))
    (subst (FrameSame b m end) (sym cut)
    (record {
      long = refl;
      header = recoded_header b m y r;
      picture = recoded_picture b m y r;
      shown = recoded_shown b m y r;
      again = λ n e room h.
          let g = recoded_again b m y r n e in
          written new n room (recodes_again b m y r n e) (subst (λ (l : List ℕ). length l ≤ length room) (sym g) h)
          ∙ (λ i. frame_ended (record { number = 0; len = length (g i) }) (recoded_picture b m y r n e i).mem (g i ++ drop (length (g i)) room));
    }))
