-- What a function that writes text promises of the lent bytes. Assumes nothing.
use Rattle.std.specs.Prelude.{ℕ, ◌+◌, ◌≤◌, ◌≡◌, List, ◌++◌, length, take, drop}
use Rattle.runner_text.specs.declared.page.Page.{Page}

-- a text put at a place of the lent bytes; all other bytes stay
unfoldable pub put : List ℕ → ℕ → List ℕ → List ℕ
put out at text = take at out ++ (text ++ drop (at + length text) out)

-- the text, of at most so many bytes, is put at a place; the answer is the place after it
pub record Wrote (most : ℕ) (text : List ℕ) (out : List ℕ) (at next : ℕ) (out' : List ℕ) : Type 0 where
  pub within : next ≤ at + most
  pub after : next ≡ at + length text
  pub kept : length out' ≡ length out
  pub laid : out' ≡ put out at text

-- the text, of at most so many bytes, is put where the text of the page ended; its bytes are the same lent ones
pub record Adds (most : ℕ) (text : List ℕ) (p p' : Page) : Type 0 where
  pub same : p'.out.ghost_name ≡ p.out.ghost_name
  pub wrote : Wrote most text p.out.now p.end p'.end p'.out.now
