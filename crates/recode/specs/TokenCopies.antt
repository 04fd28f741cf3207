-- A token, its extra bits and its sign, read and written again: the steps of the proofs.
use Rattle.std.specs.Prelude.{◌+◌, ◌-◌, ◌≤◌, ◌<◌, ◌≡◌, ◌∷◌}
use Rattle.numbers.specs.Words.{ℕ, zero, suc, arith, refl, sym, ◌∙◌, ap, subst, Bool, true, false, ltb, le-ltb, lt-ltb, bit_of, List, [], length, get_or, drop}
use Rattle.reader.specs.declared.boolean.Reader.{Reader}
use Rattle.reader.specs.declared.trees.Branch.{Branch}
use Rattle.reader.specs.declared.trees.Branch.TheVariants as B
use Rattle.reader.specs.Extra.{extra_from, extra}
use Rattle.reader.specs.ExtraLaws.{extra_asks, extra_ends}
use Rattle.reader.specs.Reading.{Reading, done, ask, ◌>>=◌, symbol}
use Rattle.reader.specs.Token.{token_tree, token_start, token}
use Rattle.reader.specs.Trees.{branch_at_of, follow, walk}
use Rattle.wide.specs.WideRuns.{walk_asks}
use Rattle.coefficients.specs.Block.{category, magnitude, signed_value}
use Rattle.writer.specs.Encoder.{Encoder}
use Rattle.recode.specs.declared.pipe.Pipe.{Pipe}
use Rattle.recode.specs.Copies.{same, nothing, Going, Copies, going_done, going_as, going_call}

-- ---- where a node's bit leads, as one number: a node, or 11 and the token
abbrev lead_of : Branch → ℕ
lead_of (B.Leaf v) = 11 + v
lead_of (B.Node j) = j

unfoldable pub led_to : ℕ → Bool → ℕ
led_to i b = lead_of (branch_at_of token_tree i b)

-- what is left of a walk there
unfoldable pub onward : ℕ → List ℕ → ℕ → Reading ℕ
onward n ps i = elim (ltb i 11) [ true ↦ walk n ps token_tree i | false ↦ done (i - 11) ]

-- the code's table
abbrev pub leads : List ℕ
leads = 11 ∷ 1 ∷ 12 ∷ 2 ∷ 13 ∷ 3 ∷ 4 ∷ 6 ∷ 14 ∷ 5 ∷ 15 ∷ 16 ∷ 7 ∷ 8 ∷ 17 ∷ 18 ∷ 9 ∷ 10 ∷ 19 ∷ 20 ∷ 21 ∷ 22 ∷ []

led_is : (i : ℕ) (b : Bool) → i < 11 → (get_or leads (i + i + bit_of b) 0 ≡ led_to i b) × (i < led_to i b) × (led_to i b < 23)
unfolding led_to
led_is zero false h = (refl, omega arith, omega arith)
led_is zero true h = (refl, omega arith, omega arith)
led_is (suc zero) false h = (refl, omega arith, omega arith)
led_is (suc zero) true h = (refl, omega arith, omega arith)
led_is (suc (suc zero)) false h = (refl, omega arith, omega arith)
led_is (suc (suc zero)) true h = (refl, omega arith, omega arith)
led_is (suc (suc (suc zero))) false h = (refl, omega arith, omega arith)
led_is (suc (suc (suc zero))) true h = (refl, omega arith, omega arith)
led_is (suc (suc (suc (suc zero)))) false h = (refl, omega arith, omega arith)
led_is (suc (suc (suc (suc zero)))) true h = (refl, omega arith, omega arith)
led_is (suc (suc (suc (suc (suc zero))))) false h = (refl, omega arith, omega arith)
led_is (suc (suc (suc (suc (suc zero))))) true h = (refl, omega arith, omega arith)
led_is (suc (suc (suc (suc (suc (suc zero)))))) false h = (refl, omega arith, omega arith)
led_is (suc (suc (suc (suc (suc (suc zero)))))) true h = (refl, omega arith, omega arith)
led_is (suc (suc (suc (suc (suc (suc (suc zero))))))) false h = (refl, omega arith, omega arith)
led_is (suc (suc (suc (suc (suc (suc (suc zero))))))) true h = (refl, omega arith, omega arith)
led_is (suc (suc (suc (suc (suc (suc (suc (suc zero)))))))) false h = (refl, omega arith, omega arith)
led_is (suc (suc (suc (suc (suc (suc (suc (suc zero)))))))) true h = (refl, omega arith, omega arith)
led_is (suc (suc (suc (suc (suc (suc (suc (suc (suc zero))))))))) false h = (refl, omega arith, omega arith)
led_is (suc (suc (suc (suc (suc (suc (suc (suc (suc zero))))))))) true h = (refl, omega arith, omega arith)
led_is (suc (suc (suc (suc (suc (suc (suc (suc (suc (suc zero)))))))))) false h = (refl, omega arith, omega arith)
led_is (suc (suc (suc (suc (suc (suc (suc (suc (suc (suc zero)))))))))) true h = (refl, omega arith, omega arith)
led_is (suc (suc (suc (suc (suc (suc (suc (suc (suc (suc (suc x))))))))))) b h = absurd (omega arith)

pub lead_is : {tree : List ℕ} (i : ℕ) (b : Bool) → tree ≡ leads → i < 11 → (get_or tree (i + i + bit_of b) 0 ≡ led_to i b) × (i < get_or tree (i + i + bit_of b) 0) × (get_or tree (i + i + bit_of b) 0 < 23)
lead_is i b e h =
    let l = led_is i b h in
    let is = ap (λ (t : List ℕ). get_or t (i + i + bit_of b) 0) e ∙ l.0 in
    (is, subst (λ (x : ℕ). i < x) (sym is) l.1, subst (λ (x : ℕ). x < 23) (sym is) l.2)

led_on : (n : ℕ) (ps : List ℕ) (i : ℕ) (b : Bool) → i < 11 → follow (walk n ps token_tree) (branch_at_of token_tree i b) ≡ onward n ps (led_to i b)
unfolding led_to onward
led_on n ps zero false h = refl
led_on n ps zero true h = refl
led_on n ps (suc zero) false h = refl
led_on n ps (suc zero) true h = refl
led_on n ps (suc (suc zero)) false h = refl
led_on n ps (suc (suc zero)) true h = refl
led_on n ps (suc (suc (suc zero))) false h = refl
led_on n ps (suc (suc (suc zero))) true h = refl
led_on n ps (suc (suc (suc (suc zero)))) false h = refl
led_on n ps (suc (suc (suc (suc zero)))) true h = refl
led_on n ps (suc (suc (suc (suc (suc zero))))) false h = refl
led_on n ps (suc (suc (suc (suc (suc zero))))) true h = refl
led_on n ps (suc (suc (suc (suc (suc (suc zero)))))) false h = refl
led_on n ps (suc (suc (suc (suc (suc (suc zero)))))) true h = refl
led_on n ps (suc (suc (suc (suc (suc (suc (suc zero))))))) false h = refl
led_on n ps (suc (suc (suc (suc (suc (suc (suc zero))))))) true h = refl
led_on n ps (suc (suc (suc (suc (suc (suc (suc (suc zero)))))))) false h = refl
led_on n ps (suc (suc (suc (suc (suc (suc (suc (suc zero)))))))) true h = refl
led_on n ps (suc (suc (suc (suc (suc (suc (suc (suc (suc zero))))))))) false h = refl
led_on n ps (suc (suc (suc (suc (suc (suc (suc (suc (suc zero))))))))) true h = refl
led_on n ps (suc (suc (suc (suc (suc (suc (suc (suc (suc (suc zero)))))))))) false h = refl
led_on n ps (suc (suc (suc (suc (suc (suc (suc (suc (suc (suc zero)))))))))) true h = refl
led_on n ps (suc (suc (suc (suc (suc (suc (suc (suc (suc (suc (suc x))))))))))) b h = absurd (omega arith)

onward_node : (n : ℕ) (ps : List ℕ) (i : ℕ) → i < 11 → onward n ps i ≡ walk n ps token_tree i
unfolding onward
onward_node n ps i h = rw (lt-ltb i 11 h, onward)

onward_leaf : (n : ℕ) (ps : List ℕ) (i : ℕ) → 11 ≤ i → onward n ps i ≡ done (i - 11)
unfolding onward
onward_leaf n ps i h = rw (le-ltb i 11 h, onward)

-- ---- a node of a token's walk
-- from node i on, with any limit that is enough
abbrev pub From : (s ps : List ℕ) → ℕ → Pipe → List ℕ → ℕ → Pipe → List ℕ → Type 0
From s ps i p room t q new = (n : ℕ) → 12 ≤ n + i → Copies same (walk n ps token_tree i) s p room t q new

module _ {s : List ℕ} (ps : List ℕ) (i : ℕ) {p : Pipe} {room : List ℕ} {prob : ℕ} {b : Bool} {q : Pipe} {new : List ℕ} (h : i < 11) (e : prob ≡ get_or ps i 0) (c : Copies same (symbol prob) s p room b q new) where
  node_asked : {a : ℕ} {r2 : Reader} {F : Encoder} {old : List ℕ} {v : Bool} {x : Branch} → b ≡ v → branch_at_of token_tree i v ≡ x → (n : ℕ) → Going s a r2 F old (walk (suc n) ps token_tree i) p room
      → Going s a r2 F old (follow (walk n ps token_tree) x) q new
  node_asked f l n g =
      let on : Bool → Reading ℕ = λ b. follow (walk n ps token_tree) (branch_at_of token_tree i b) in
      let is : walk (suc n) ps token_tree i ≡ (symbol prob >>= on) = walk_asks n ps token_tree i ∙ ap (λ (x : ℕ). ask x on) (sym e) in
      let d = going_call (symbol prob) on (going_as is g) c in
      going_as (ap on (sym d.seen ∙ f) ∙ ap (follow (walk n ps token_tree)) l) d.going

  pub from_leaf : {v : Bool} {t : ℕ} → b ≡ v → branch_at_of token_tree i v ≡ B.Leaf t → From s ps i p room t q new
  from_leaf f l zero o a r2 F old g = absurd (omega arith)
  from_leaf f l (suc n) o a r2 F old g = going_done (node_asked f l n g) refl

  pub from_node : {v : Bool} {t : ℕ} {u : Pipe} {end : List ℕ} → b ≡ v → branch_at_of token_tree i v ≡ B.Node (suc i) → From s ps (suc i) q new t u end → From s ps i p room t u end
  from_node f l k zero o a r2 F old g = absurd (omega arith)
  from_node f l k (suc n) o a r2 F old g = k n (omega arith) a r2 F old (node_asked f l n g)

pub token_from : {s : List ℕ} (ps : List ℕ) {z v : Bool} {p : Pipe} {room : List ℕ} {t : ℕ} {q : Pipe} {new : List ℕ} → z ≡ v → From s ps (token_start v) p room t q new → Copies same (token ps z) s p room t q new
token_from {s} ps {p} {room} {t} {q} {new} e f = subst (λ (x : Bool). Copies same (token ps x) s p room t q new) (sym e) (f 32 (omega arith))

-- ---- the loop over the nodes of a number's token
pub record Steps (s : List ℕ) (a : ℕ) (r2 : Reader) (F : Encoder) (old ps : List ℕ) (i : ℕ) (p : Pipe) (room : List ℕ) : Type 0 where
  pub fuel : ℕ
  pub enough : 12 ≤ fuel + i
  pub going : Going s a r2 F old (onward fuel ps i) p room

pub record Walking (s ps : List ℕ) (i₀ : ℕ) (p₀ : Pipe) (room₀ : List ℕ) (p : Pipe) (i : ℕ) (room : List ℕ) : Type 0 where
  pub low : i < 23
  pub long : length room ≡ length room₀
  pub way : (n : ℕ) → 12 ≤ n + i₀ → (a : ℕ) (r2 : Reader) (F : Encoder) (old : List ℕ) → Going s a r2 F old (walk n ps token_tree i₀) p₀ room₀ → Steps s a r2 F old ps i p room

pub walking_start : (s ps : List ℕ) (i : ℕ) (p : Pipe) (room : List ℕ) → i < 11 → Walking s ps i p room p i room
walking_start s ps i p room h =
    record { low = omega arith; long = refl; way = λ n o a r2 F old g. record { fuel = n; enough = o; going = going_as (sym (onward_node n ps i h)) g } }

module _ {s ps : List ℕ} {i₀ : ℕ} {p₀ : Pipe} {room₀ : List ℕ} {p : Pipe} {i : ℕ} {room : List ℕ} (w : Walking s ps i₀ p₀ room₀ p i room) where
  pub walking_next : i < 11 → {b : Bool} {n : ℕ} {q : Pipe} {new : List ℕ} {prob : ℕ} → prob ≡ get_or ps i 0 → Copies same (symbol prob) s p room b q new → n ≡ led_to i b → n < 23 → i < n → length new ≡ length room → Walking s ps i₀ p₀ room₀ q n new
  walking_next h {b} {n} {q} {new} {prob} e c f l m k =
      record { low = l; long = k ∙ w.long; way = λ x o a r2 F old g. let t = w.way x o a r2 F old g in go t.fuel t.enough t.going }
    where
      go : {a : ℕ} {r2 : Reader} {F : Encoder} {old : List ℕ} (fuel : ℕ) → 12 ≤ fuel + i → Going s a r2 F old (onward fuel ps i) p room → Steps s a r2 F old ps n q new
      go zero o g = absurd (omega arith)
      go (suc fuel) o g =
          record { fuel = fuel; enough = omega arith; going = going_as (led_on fuel ps i b h ∙ ap (onward fuel ps) (sym f)) (node_asked ps i h e c refl refl fuel (going_as (onward_node (suc fuel) ps i h) g)) }

  pub walking_end : 11 ≤ i → From s ps i₀ p₀ room₀ (i - 11) p room
  walking_end h n o a r2 F old g = let t = w.way n o a r2 F old g in going_done (going_as (onward_leaf t.fuel ps i h) t.going) refl

-- ---- extra bits
pub record Bits (s : List ℕ) (a : ℕ) (r2 : Reader) (F : Encoder) (old ps : List ℕ) (i : ℕ) (p : Pipe) (room : List ℕ) : Type 0 where
  pub v : ℕ
  pub going : Going s a r2 F old (extra_from v (drop i ps)) p room

pub record Taking (s ps : List ℕ) (p₀ : Pipe) (room₀ : List ℕ) (p : Pipe) (i : ℕ) (room : List ℕ) : Type 0 where
  pub long : length room ≡ length room₀
  pub way : (a : ℕ) (r2 : Reader) (F : Encoder) (old : List ℕ) → Going s a r2 F old (extra ps) p₀ room₀ → Bits s a r2 F old ps i p room

pub taking_start : (s ps : List ℕ) (p : Pipe) (room : List ℕ) → Taking s ps p room p 0 room
taking_start s ps p room = record { long = refl; way = λ a r2 F old g. record { v = 0; going = g } }

module _ {s ps : List ℕ} {p₀ : Pipe} {room₀ : List ℕ} {p : Pipe} {i : ℕ} {room : List ℕ} (w : Taking s ps p₀ room₀ p i room) where
  pub taking_next : i < length ps → {b : Bool} {q : Pipe} {new : List ℕ} → Copies same (symbol (get_or ps i 0)) s p room b q new → length new ≡ length room → Taking s ps p₀ room₀ q (i + 1) new
  taking_next h c k =
      record {
        long = k ∙ w.long;
        way = λ a r2 F old g.
            let t = w.way a r2 F old g in
            let d = going_call (symbol (get_or ps i 0)) (λ b. extra_from (t.v + t.v + bit_of b) (drop (i + 1) ps)) (going_as (extra_asks ps t.v i h) t.going) c in
            record { v = t.v + t.v + bit_of d.d; going = d.going };
      }

  pub taking_end : length ps ≤ i → Copies nothing (extra ps) s p₀ room₀ tt p room
  taking_end h a r2 F old g = let t = w.way a r2 F old g in going_done (going_as (extra_ends ps t.v i h) t.going) refl

-- ---- the number of a token, and its sign
module _ {s : List ℕ} {p : Pipe} {room : List ℕ} {q : Pipe} {new : List ℕ} where
  pub category_copies : (t base : ℕ) (ps : List ℕ) → category base ps ≡ magnitude t → Copies nothing (extra ps) s p room tt q new → Copies nothing (magnitude t) s p room tt q new
  category_copies t base ps e c a r2 F old g =
      let d = going_call (extra ps) (λ v. done (base + v)) (going_as (sym e) g) c in
      going_done d.going refl

pub magnitude_none : {s : List ℕ} {p : Pipe} {room : List ℕ} (t : ℕ) → done (t - 1) ≡ magnitude t → Copies nothing (magnitude t) s p room tt p room
magnitude_none t e a r2 F old g = going_done (going_as (sym e) g) refl

-- after a token: nothing after a zero, else its number and its sign
pub record Rest (s : List ℕ) (p : Pipe) (room : List ℕ) (t : ℕ) (q : Pipe) (new : List ℕ) : Type 0 where
  pub after_zero : t ≡ 1 → (q ≡ p) × (new ≡ room)
  pub number : (t ≡ 1 → ⊥) → (x : ℕ) → Copies nothing (signed_value t x) s p room tt q new

pub rest_zero : {s : List ℕ} {p : Pipe} {room : List ℕ} {t : ℕ} → t ≡ 1 → Rest s p room t p room
rest_zero e = record { after_zero = λ f. (refl, refl); number = λ f. absurd (f e) }

pub rest_number : {s : List ℕ} {p : Pipe} {room : List ℕ} (t : ℕ) {m : Pipe} {mid : List ℕ} {b : Bool} {q : Pipe} {new : List ℕ} → (t ≡ 1 → ⊥)
    → Copies nothing (magnitude t) s p room tt m mid → Copies same (symbol 128) s m mid b q new → Rest s p room t q new
unfolding signed_value
rest_number t h c d =
    record {
      after_zero = λ f. absurd (h f);
      number = λ f x a r2 F old g.
          let v = going_call (magnitude t) _ g c in
          let w = going_call (symbol 128) _ v.going d in
          going_done w.going refl;
    }
