-- The model's 2 and 7 case by case, each from the tests that lead to it.
-- Assumes nothing.
use Prim.Native.Nat.{◌≤◌, ◌<◌}
use mathlib.Core.Path.{◌≡◌}
use mathlib.Core.Bool.{true, false}
use borrow.Author.Tests.{eq-eqb, ne_eqb, lt-ltb, le-ltb}
use Rattle.model.specs.Tables.{Row}
use Rattle.model.specs.State.{Port, with_queue}
use Rattle.model.specs.Events.{Event, Call, need, message_of}
use Rattle.model.specs.Answers.{nothing_told}
use Rattle.model.specs.Services.{refuses, serves, directed, stored, put}

module _ (r : Row) (e : Event) (f : Call) (q : Port) where
  pub put-empty : f.size ≡ 0 → put r e f q ≡ refuses 3
  unfolding put
  put-empty a = rw (eq-eqb f.size 0 a)

  pub put-long : (f.size ≡ 0 → ⊥) → r.largest < f.size → put r e f q ≡ refuses 4
  unfolding put
  put-long a b = rw (ne_eqb f.size 0 a, lt-ltb r.largest f.size b)

  pub put_wrong : (f.size ≡ 0 → ⊥) → f.size ≤ r.largest → directed (need f.code) r ≡ false → put r e f q ≡ refuses 5
  unfolding put
  put_wrong a b d = rw (ne_eqb f.size 0 a, le-ltb r.largest f.size b, d)

  pub put-stored : (f.size ≡ 0 → ⊥) → f.size ≤ r.largest → directed (need f.code) r ≡ true
      → put r e f q ≡ serves nothing_told (with_queue q (stored r q.queue (message_of e f.size)))
  unfolding put
  put-stored a b d = rw (ne_eqb f.size 0 a, le-ltb r.largest f.size b, d)
