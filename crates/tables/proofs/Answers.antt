-- What the answer of a call says of the test that it carries out, after a branch `if !call(..)`.
-- Assumes nothing.
use mathlib.Core.Path.{◌≡◌, sym, ◌∙◌}
use mathlib.Core.Bool.{Bool, true, false}

module _ {answer test : Bool} (e : answer ≡ test) where
  pub fails : answer ≡ false → test ≡ false
  fails h = sym e ∙ h

  pub holds : answer ≡ true → test ≡ true
  holds h = sym e ∙ h
