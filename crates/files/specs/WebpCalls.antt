-- The WebP calls as C sees them: a number, and what is returned besides, 0 after a refusal.
use Rattle.numbers.specs.Words.{ℕ, Result, List}
use Rattle.webp.specs.declared.read.Found.{Found}
use Rattle.webp.specs.declared.read.FindError.{FindError}
use Rattle.webp.specs.Webp.{find_of, found_number_of, found_start_of, found_length_of, WriteEnded, wrap_of, wrapped_number_of, wrapped_length_of}

-- what `hookbarley_webp_find` leaves: its number, the frame's place and length
pub record WebpFound : Type 0 where
  pub number : ℕ
  pub start : ℕ
  pub len : ℕ

-- the reader's answer, as C sees it
abbrev pub to_found : Result Found FindError → WebpFound
to_found f = record { number = found_number_of f; start = found_start_of f; len = found_length_of f }

-- `hookbarley_webp_find` of a file's bytes
unfoldable pub webp_found_of : List ℕ → WebpFound
webp_found_of bytes = to_found (find_of bytes)

-- what `hookbarley_webp_wrap` leaves: its number, the bytes written, the room
pub record WebpWrapped : Type 0 where
  pub number : ℕ
  pub written : ℕ
  pub out : List ℕ

-- the writer's answer, as C sees it
abbrev pub to_wrapped : WriteEnded → WebpWrapped
to_wrapped e = record { number = wrapped_number_of e.answer; written = wrapped_length_of e.answer; out = e.out }

-- `hookbarley_webp_wrap` of a frame and a room
unfoldable pub webp_wrapped_of : List ℕ → List ℕ → WebpWrapped
webp_wrapped_of frame out = to_wrapped (wrap_of frame out)
