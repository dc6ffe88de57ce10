-- Lines of 01's listing, and what the digits of a number say. Assumes nothing.
use mathlib.Core.Path.{◌≡◌, refl}
use mathlib.Core.List.{[], ◌∷◌}
use Rattle.model.specs.Words.{zeros}
use Rattle.runner_text.specs.Text.{decimal, field, who, what, how, shows_message, message, line, hex_byte}
use Rattle.model.specs.Answers.{handed, stretch, is_handed}

-- a read, answered with the message 41 42: `9 1 0 0 0 2 1 0 0 4142`
read-line :
    line 9 (3 ∷ 0 ∷ 2 ∷ zeros 77) (0 ∷ 1 ∷ 0 ∷ 0 ∷ 0 ∷ 0 ∷ 0 ∷ 0 ∷ 2 ∷ 0 ∷ 0 ∷ 0 ∷ 1 ∷ 0 ∷ 0 ∷ 0 ∷ 65 ∷ 66 ∷ zeros 62)
    ≡ 57 ∷ 32 ∷ 49 ∷ 32 ∷ 48 ∷ 32 ∷ 48 ∷ 32 ∷ 48 ∷ 32 ∷ 50 ∷ 32 ∷ 49 ∷ 32 ∷ 48 ∷ 32 ∷ 48 ∷ 32 ∷ 52 ∷ 49 ∷ 52 ∷ 50 ∷ 10 ∷ []
unfolding line who what how message shows_message field decimal hex_byte handed stretch is_handed
read-line = refl

-- a status, answered with the same code: `10 1 0 0 20 4 1 1 0 -`
status-line :
    line 10 (5 ∷ 0 ∷ 2 ∷ zeros 77) (0 ∷ 1 ∷ 0 ∷ 0 ∷ 20 ∷ 0 ∷ 0 ∷ 0 ∷ 4 ∷ 0 ∷ 0 ∷ 0 ∷ 1 ∷ 1 ∷ zeros 66)
    ≡ 49 ∷ 48 ∷ 32 ∷ 49 ∷ 32 ∷ 48 ∷ 32 ∷ 48 ∷ 32 ∷ 50 ∷ 48 ∷ 32 ∷ 52 ∷ 32 ∷ 49 ∷ 32 ∷ 49 ∷ 32 ∷ 48 ∷ 32 ∷ 45 ∷ 10 ∷ []
unfolding line who what how message shows_message field decimal hex_byte handed stretch is_handed
status-line = refl
