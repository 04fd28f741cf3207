-- The careful way, on plain values: what a grammar gives and how many symbols it reads, one part after the other.
use Rattle.numbers.specs.Words.{ℕ, zero, suc, ◌+◌, ◌*◌, ◌≤◌, ◌<◌, arith, ◌≡◌, refl, sym, ◌∙◌, ap, true, not, List, set, Ok, Err}
use Rattle.header.specs.declared.frame.Announced.{Announced}
use Rattle.reader.specs.declared.boolean.Reader.{Reader}
use Rattle.reader.specs.declared.boolean.Unread.{Unread}
use Rattle.reader.specs.Reading.{Given, given, missing, ReadOf, to_read, Reading, done, ◌>>=◌, symbol, run, Within, count}
use Rattle.reader.specs.ReadingLaws.{Bytes, Valid, ReadTo, run_valid, from_read, count_within}
use Rattle.reader.specs.Counts.{Took}
use Rattle.reader.specs.CountsLaws.{took_as, took_done, took_then, took_stops, took_ends}
use Rattle.modes.specs.Modes.{Modes, segment, skip, prefix, large_mode_of, block_mode_of, mode_above_of, mode_left_of, small_from, zeros, small_modes_of, luma, modes_of, Told}
use Rattle.modes.specs.ModesLaws.{block_within, set_modes, zeros_modes}
use Rattle.modes.specs.AnswersLaws.{moded}

-- ---- of what a call told, and to it
module _ {A B : Type 0} (to : Given A → B) {k : ℕ} {m : Reading A} {s : List ℕ} {r : Reader} {n : ℕ} where
  pub took_told : {y : B} {x : Given A} → Told to k m s r y n → run m s r ≡ x → Took m s r x n
  took_told t e = record { gave = e; took = t.1.0 }

  pub told : {P : A → Type 0} {x : Given A} → Within P k m → Took m s r x n → Told to k m s r (to x) n
  told w t = (sym (ap to t.gave), (t.took, rw t.took (count_within s r w)))

-- the same of an equal grammar, with that one's bound
pub told_as : {A B : Type 0} {P : A → Type 0} (to : Given A → B) {j k : ℕ} {m o : Reading A} (s : List ℕ) (r : Reader) {n : ℕ} {y : B} → m ≡ o → Within P k o → Told to j m s r y n → Told to k o s r y n
told_as to {o} s r e w t = let f = t.1.0 ∙ ap (λ m. count m s r) e in (t.0 ∙ ap (λ m. to (run m s r)) e, (f, rw f (count_within s r w)))

-- an answer that was taken apart
module _ {A : Type 0} {k : ℕ} {m : Reading A} {s : List ℕ} {r : Reader} {x : ReadOf A} {n : ℕ} (t : Told to_read k m s r x n) where
  pub read_gave : {v : A} {q : Reader} → x ≡ Ok (v, q) → Took m s r (given v q) n
  read_gave e = took_told to_read t (moded (run m s r) t.0 ∙ ap from_read e)

  pub read_missing : {u : Unread} → x ≡ Err u → Took m s r missing n
  read_missing e = took_told to_read t (moded (run m s r) t.0 ∙ ap from_read e)

-- ---- one part after the other
pub took_equal : {A : Type 0} {m o : Reading A} {s : List ℕ} {r : Reader} {x : Given A} {n : ℕ} → m ≡ o → Took m s r x n → Took o s r x n
took_equal e t = rw e at t

-- three parts, and what is made of their values
pub record Three {A B C D : Type 0} (whole : Reading D) (m : Reading A) (f : A → Reading B) (g : A → B → Reading C) (h : A → B → C → D) : Type 0 where
  pub same : (m >>= (λ a. f a >>= (λ b. g a b >>= (λ c. done (h a b c))))) ≡ whole

module _ {A B C D : Type 0} {whole : Reading D} {m : Reading A} {f : A → Reading B} {g : A → B → Reading C} {h : A → B → C → D} (p : Three whole m f g h) {s : List ℕ} {r : Reader} {n : ℕ} where
  pub three_1 : Took m s r missing n → Took whole s r missing n
  three_1 e = took_equal p.same (took_stops (λ a. f a >>= (λ b. g a b >>= (λ c. done (h a b c)))) m e)

  module _ {a : A} {t : Reader} (e : Took m s r (given a t) n) where
    after : {x : Given D} {j : ℕ} → Took (f a >>= (λ b. g a b >>= (λ c. done (h a b c)))) s t x j → Took whole s r x (n + j)
    after i = took_equal p.same (took_then (λ a. f a >>= (λ b. g a b >>= (λ c. done (h a b c)))) m e i)

    pub three_2 : {k : ℕ} → Took (f a) s t missing k → Took whole s r missing (n + k)
    three_2 i = after (took_stops (λ b. g a b >>= (λ c. done (h a b c))) (f a) i)

    module _ {k : ℕ} {b : B} {u : Reader} (i : Took (f a) s t (given b u) k) {l : ℕ} where
      last : {x : Given D} → Took (g a b >>= (λ c. done (h a b c))) s u x l → Took whole s r x (n + k + l)
      last j = took_as refl (omega arith) (after (took_then (λ b. g a b >>= (λ c. done (h a b c))) (f a) i j))

      pub three_3 : Took (g a b) s u missing l → Took whole s r missing (n + k + l)
      three_3 j = last (took_stops (λ c. done (h a b c)) (g a b) j)

      pub three_4 : {c : C} {q : Reader} → Took (g a b) s u (given c q) l → Took whole s r (given (h a b c) q) (n + k + l)
      three_4 {c} {q} j = last (took_ends (λ c. done (h a b c)) (g a b) j (took_done (h a b c) s q))

pub prefix_parts : (a : Announced) → Three (prefix a) (segment a) (λ v. skip a) (λ v b. symbol 145) (λ v b large. record { segment = v; skip = b; small = not large })
unfolding prefix
prefix_parts a = record { same = refl }

pub modes_parts : (a : Announced) (above left : List ℕ) → Three (modes_of a above left) (prefix a) (λ p. luma p.small above left) (λ p l. large_mode_of true) (λ p l c. record { segment = p.segment; skip = p.skip; small = p.small; modes = l; chroma = c })
unfolding modes_of
modes_parts a above left = record { same = refl }

-- ---- the sixteen small modes: at block i, with the reader r, the modes so far and the symbols read for them; what is left ends them all
pub record Going (s above left : List ℕ) (start : Reader) (i reads : ℕ) (r : Reader) (modes : List ℕ) : Type 0 where
  pub more : ℕ
  pub sum : i + more ≡ 16
  pub rest : (x : Given (List ℕ)) (n : ℕ) → Took (small_from more i above left modes) s r x n → Took (small_modes_of above left) s start x (reads + n)
  pub few : reads ≤ i * 7
  pub valid : Valid s r
  pub each : Modes modes

pub going_start : {s : List ℕ} (above left : List ℕ) {r : Reader} → Valid s r → Going s above left r 0 0 r zeros
unfolding small_modes_of
going_start above left v = record { more = 16; sum = refl; rest = λ x n t. took_as refl (omega arith) t; few = omega arith; valid = v; each = zeros_modes }

module _ {s above left : List ℕ} {start : Reader} {i reads : ℕ} {r : Reader} {modes : List ℕ} (g : Going s above left start i reads r modes) where
  -- what the code's call told at block i, whose contexts u and b it worked out
  module _ {u b n : ℕ} {x : ReadOf ℕ} (e : u ≡ mode_above_of above modes i) (f : b ≡ mode_left_of left modes i) (t : Told to_read 7 (block_mode_of u b) s r x n) (l : i < 16) where
    asked : Told to_read 7 (block_mode_of (mode_above_of above modes i) (mode_left_of left modes i)) s r x n
    asked = rw (← e, ← f) t

    pub going_next : Bytes s → {m : ℕ} {q : Reader} → x ≡ Ok (m, q) → Going s above left start (i + 1) (reads + n) q (set modes i m)
    unfolding small_from
    going_next y {m} {q} k = go g.more g.sum g.rest
      where
        z : Took (block_mode_of (mode_above_of above modes i) (mode_left_of left modes i)) s r (given m q) n
        z = read_gave asked k

        d : ReadTo (λ v. v < 10) s r m q
        d = run_valid (block_within (mode_above_of above modes i) (mode_left_of left modes i)) y g.valid z.gave

        go : (k : ℕ) → i + k ≡ 16 → ((x : Given (List ℕ)) (n : ℕ) → Took (small_from k i above left modes) s r x n → Took (small_modes_of above left) s start x (reads + n)) → Going s above left start (i + 1) (reads + n) q (set modes i m)
        go zero p w = absurd (omega arith)
        go (suc k) p w =
            record {
              more = k;
              sum = omega arith;
              rest = λ x j h. took_as refl (omega arith) (w x (n + j) (took_then (λ m. small_from k (i + 1) above left (set modes i m)) (block_mode_of (mode_above_of above modes i) (mode_left_of left modes i)) z h));
              few = omega (arith, g.few, t.1.1);
              valid = d.valid;
              each = set_modes modes i m d.value g.each;
            }

    pub going_missing : {u : Unread} → x ≡ Err u → Took (small_modes_of above left) s start missing (reads + n)
    unfolding small_from
    going_missing k = go g.more g.sum g.rest
      where
        go : (k : ℕ) → i + k ≡ 16 → ((x : Given (List ℕ)) (n : ℕ) → Took (small_from k i above left modes) s r x n → Took (small_modes_of above left) s start x (reads + n)) → Took (small_modes_of above left) s start missing (reads + n)
        go zero p w = absurd (omega arith)
        go (suc j) p w = w missing n (took_stops (λ m. small_from j (i + 1) above left (set modes i m)) (block_mode_of (mode_above_of above modes i) (mode_left_of left modes i)) (read_missing asked k))

  pub going_end : 16 ≤ i → Took (small_modes_of above left) s start (given modes r) reads
  unfolding small_from
  going_end l = go g.more g.sum g.rest
    where
      go : (k : ℕ) → i + k ≡ 16 → ((x : Given (List ℕ)) (n : ℕ) → Took (small_from k i above left modes) s r x n → Took (small_modes_of above left) s start x (reads + n)) → Took (small_modes_of above left) s start (given modes r) reads
      go zero p w = took_as refl (omega arith) (w (given modes r) 0 (took_done modes s r))
      go (suc k) p w = absurd (omega arith)
