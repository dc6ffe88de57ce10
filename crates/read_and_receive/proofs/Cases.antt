-- The model's 3, 8 and 11 case by case, each from the tests that lead to it.
-- Assumes nothing.
use Prim.Native.Nat.{ℕ}
use mathlib.Core.Path.{◌≡◌, refl}
use native.Mathlib.Omega.{arith}
use mathlib.Core.Bool.{true, false}
use mathlib.Core.List.{List, [], ◌∷◌}
use borrow.Author.Tests.{eq-eqb, ne_eqb}
use Rattle.model.specs.Tables.{Row}
use Rattle.model.specs.State.{Message, Port, with_queue, valid}
use Rattle.model.specs.Events.{Call, need}
use Rattle.model.specs.Answers.{nothing_told, told_message}
use Rattle.events.specs.declared.codes.Code.{Code}
use Rattle.events.specs.declared.codes.Code.TheVariants.{ReadSamplingMessage}
use Rattle.events.specs.Shown.{number_of}
use Rattle.model.specs.Services.{refuses, serves, directed, mark, read_oldest, take_oldest, get, cleared}

-- 3
pub read_some : (refresh time : ℕ) (q : Port) {queue : List Message} (m : Message) (rest : List Message) → queue ≡ m ∷ rest
    → read_oldest refresh time q queue
    ≡ serves (told_message m (mark (valid refresh time q.arrival)))
    (record { created = q.created; arrival = q.arrival; validity = mark (valid refresh time q.arrival); queue = q.queue })
read_some refresh time q m rest e = rw e

-- 3 alone is the code of a read
pub not-read : (c : Code) → (c ≡ ReadSamplingMessage → ⊥) → number_of c ≡ 3 → ⊥
not-read ReadSamplingMessage n e = n refl
not-read _ n e = absurd (omega arith)

-- 3 and 8: the direction, then the code
module _ (time : ℕ) (r : Row) (f : Call) (q : Port) where
  pub get-wrong : directed (need f.code) r ≡ false → get time r f q ≡ refuses 5
  unfolding get
  get-wrong d = rw d

  pub get-read : directed (need f.code) r ≡ true → f.code ≡ 3 → get time r f q ≡ read_oldest r.refresh time q q.queue
  unfolding get
  get-read d e = simp (d, eq-eqb f.code 3 e)

  pub get-receive : directed (need f.code) r ≡ true → (f.code ≡ 3 → ⊥) → get time r f q ≡ take_oldest q q.queue
  unfolding get
  get-receive d n = simp (d, ne_eqb f.code 3 n)

-- 11
module _ (r : Row) (f : Call) (q : Port) where
  pub clear-wrong : directed (need f.code) r ≡ false → cleared r f q ≡ refuses 5
  unfolding cleared
  clear-wrong d = rw d

  pub clear-done : directed (need f.code) r ≡ true → cleared r f q ≡ serves nothing_told (with_queue q [])
  unfolding cleared
  clear-done d = rw d
