-- How many bytes a read gave. Assumes nothing.
use Rattle.std.specs.Prelude.{ℕ, Result, Ok, Err}
use Rattle.reading.specs.declared.Unread.{Unread}

-- all that it answers, or those that came before it failed
abbrev pub came : Result ℕ Unread → ℕ
came (Ok got) = got
came (Err unread) = unread.got
