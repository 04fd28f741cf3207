-- What a pass over a tile's tokens promises: one that writes, one that only counts, and the call's.
use Rattle.std.specs.Prelude.{◌≤◌, ◌≡◌, ◌++◌}
use Rattle.numbers.specs.Words.{ℕ, List, length, drop, ℤ, Ok}
use Rattle.lent.specs.Memory.{Memory}
use Rattle.tile.specs.declared.Tile.{Tile}
use Rattle.choices.specs.Choices.{Call, call_of}
use Rattle.picture.specs.Picture.{picture_of}
use Rattle.recode.specs.declared.tokens.TokensRecoded.{TokensRecoded}
use Rattle.recode.specs.Recode.{tokens_read, one_partition, tokens_into, tokens_ended}

-- a tile whose sides and count passed the checks
pub record Small (t : Tile) : Type 0 where
  pub width : t.width ≤ 16384
  pub height : t.height ≤ 16384
  pub count : t.count ≤ 8

-- what a pass leaves: columns as the picture call does, the count of all bytes, and the bytes themselves where the room holds them
pub record Passed (c : Call) (m end : Memory) (room : List ℕ) (n : ℕ) (after new : List ℕ) : Type 0 where
  pub columns : after ≡ end.columns
  pub long : n ≡ length (one_partition c m)
  pub size : length new ≡ length room
  pub same : length (one_partition c m) ≤ length room → new ≡ one_partition c m ++ drop (length (one_partition c m)) room

-- its contract, for a tile that is answered 0
abbrev pub Passes : List ℕ → Tile → List ℤ → (columns room : List ℕ) → ℕ → (after new : List ℕ) → Type 0
Passes bytes tile header columns room n after new =
    (m : Memory) (M : ℕ) (end : Memory) → length m.columns ≡ length columns → picture_of (call_of bytes tile header) m ≡ record { answer = Ok M; mem = end } → Passed (call_of bytes tile header) m end room n after new

-- one that only counts
abbrev pub Measures : List ℕ → Tile → List ℤ → (columns : List ℕ) → ℕ → (after : List ℕ) → Type 0
Measures bytes tile header columns n after =
    (m : Memory) (M : ℕ) (end : Memory) → length m.columns ≡ length columns → picture_of (call_of bytes tile header) m ≡ record { answer = Ok M; mem = end } → (after ≡ end.columns) × (n ≡ length (one_partition (call_of bytes tile header) m))

-- what is written of a tile that is answered 0, of at most so many token symbols
abbrev pub Writes : List ℕ → Tile → List ℤ → (most : ℕ) → (columns out : List ℕ) → TokensRecoded → (after new : List ℕ) → Type 0
Writes bytes tile header most columns out q after new =
    (m : Memory) (M : ℕ) (end : Memory) → length m.columns ≡ length columns → picture_of (call_of bytes tile header) m ≡ record { answer = Ok M; mem = end } → length (tokens_read (call_of bytes tile header) m) ≤ most
    → (after ≡ end.columns) × (tokens_ended q end new ≡ tokens_into (call_of bytes tile header) m end out)
