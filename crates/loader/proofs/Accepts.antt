-- An outcome that shows the verdict on tables is an Ok exactly where they are accepted.
-- Assumes nothing.
use Rattle.std.specs.Prelude.{Result, Ok, Err, is_ok}
use mathlib.Core.Path.{◌≡◌, ap}
use Rattle.model.specs.Tables.{Tables}
use Rattle.model.specs.Load.{load_of, is_accepted, accepts}
use Rattle.loader.specs.declared.refusal.Refused.{Refused}
use Rattle.loader.specs.Shown.{verdict_of}

pub is_ok-accepts : {A : Type 0} (t : Tables) (v : Result A Refused) → verdict_of v ≡ load_of t → is_ok v ≡ accepts t
unfolding accepts
is_ok-accepts t (Ok x) e = ap is_accepted e
is_ok-accepts t (Err r) e = ap is_accepted e
