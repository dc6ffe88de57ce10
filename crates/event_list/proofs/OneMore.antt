-- A list of events one record at a time: the records so far, their answers, and a state that is ready for the next.
-- Assumes nothing.
use Prim.Native.Nat.{ℕ, zero, suc, ◌+◌, ◌*◌, ◌≤◌}
use mathlib.Core.Path.{◌≡◌, refl, sym, ◌∙◌, ap, ap₂, subst}
use mathlib.Core.List.{List, [], ◌∷◌, ◌++◌, append_assoc, append-nil}
use native.Mathlib.Numerals.{add-one}
use native.Mathlib.Omega.{arith}
use lib.ListN.{length, take, drop, length-append, length-drop}
use lib.Seq.{take_at, drop-append-add, drop-drop, length-take-le}
use Rattle.model.specs.Words.{cut}
use Rattle.model.specs.Tables.{Tables}
use Rattle.model.specs.State.{State}
use Rattle.model.specs.Events.{Event}
use Rattle.model.specs.Step.{answer, after}
use Rattle.model.specs.Run.{answers, after_all, joined}
use Rattle.model.proofs.Accepted.{accepted}
use Rattle.model.proofs.Lists.{after-append, answers-append, joined-append, answer-length}
use Rattle.model.specs.Ranged.{Ranged}
use Rattle.model.proofs.Reached.{after-ranged}
use Rattle.events.specs.declared.clock.Clock.{Clock}
use Rattle.service_contracts.specs.Did.{shown}
use Rattle.service_contracts.proofs.Holding.{held_of}
use Rattle.event_step.specs.Turned.{clock_of, Ready}
use Rattle.event_list.specs.Stepped.{LeavesAt, RunsTo}

-- one record more
cut-next : (n : ℕ) (b : List ℕ) → cut 80 (suc n) b ≡ cut 80 n b ++ take 80 (drop (80 * n) b) ∷ []
cut-next zero b = refl
cut-next (suc n) b =
    let place : 80 + 80 * n ≡ 80 * suc n = omega arith in
    ap (λ l. take 80 b ∷ l)
    (cut-next n (drop 80 b) ∙ ap (λ x. cut 80 n (drop 80 b) ++ take 80 x ∷ []) (drop-drop (80 * n) 80 b ∙ ap (λ k. drop k b) place))

cut-length : (n : ℕ) (b : List ℕ) → length (cut 80 n b) ≡ n
cut-length zero b = refl
cut-length (suc n) b = ap suc (cut-length n (drop 80 b))

joined_length : (t : Tables) (s : State) (es : List Event) → length (joined (answers t s es)) ≡ 80 * length es
joined_length t s [] = refl
joined_length t s (e ∷ es) =
    length-append (answer t s e) (joined (answers t (after t s e) es))
    ∙ omega (arith, answer-length t s e, joined_length t (after t s e) es)

-- no event yet
pub none_yet : {t : Tables} {clock : Clock} {modes numbers bytes : List ℕ} (events answers : List ℕ) → Ready t clock modes numbers bytes
    → RunsTo t 0 events clock modes numbers bytes answers clock modes numbers bytes answers
none_yet events answers h = record { ready = h; answered = refl; left = refl }

-- one event more
module _
    (t : Tables) (n : ℕ) (events : List ℕ) (fits : 80 * n + 80 ≤ length events)
    (c₀ : Clock) (m₀ n₀ b₀ a₀ : List ℕ) (c₁ : Clock) (m₁ n₁ b₁ a₁ : List ℕ) (c₂ : Clock) (m₂ n₂ b₂ a₂ : List ℕ)
    (h : RunsTo t n events c₀ m₀ n₀ b₀ a₀ c₁ m₁ n₁ b₁ a₁)
    (step : LeavesAt t (take 80 (drop (80 * n) events)) n c₁ m₁ n₁ b₁ a₁ c₂ m₂ n₂ b₂ a₂)
  where
    s₀ : State
    s₀ = shown t (clock_of c₀) m₀ n₀ b₀

    es : List Event
    es = cut 80 n events

    e : Event
    e = take 80 (drop (80 * n) events)

    x : List ℕ
    x = joined (answers t s₀ es)

    ans : List ℕ
    ans = answer t (after_all t s₀ es) e

    records : cut 80 (n + 1) events ≡ es ++ e ∷ []
    unfolding es e
    records = ap (λ k. cut 80 k events) (add-one n) ∙ cut-next n events

    more_left : shown t (clock_of c₂) m₂ n₂ b₂ ≡ after_all t s₀ (cut 80 (n + 1) events)
    unfolding s₀ es e
    more_left = step.left ∙ ap (λ s. after t s e) h.left ∙ sym (ap (after_all t s₀) records ∙ after-append t s₀ es (e ∷ []))

    x-length : length x ≡ 80 * n
    unfolding x es
    x-length = joined_length t s₀ es ∙ ap (λ k. 80 * k) (cut-length n events)

    more-joined : joined (answers t s₀ (cut 80 (n + 1) events)) ≡ x ++ ans
    unfolding x ans es
    more-joined =
        ap (λ l. joined (answers t s₀ l)) records
        ∙ ap joined (answers-append t s₀ es (e ∷ []))
        ∙ joined-append (answers t s₀ es) (ans ∷ [])
        ∙ ap (λ l. x ++ l) (append-nil ans)

    front : take (80 * n) a₁ ≡ x
    unfolding x s₀ es
    front = ap (take (80 * n)) h.answered ∙ take_at x (drop (80 * n) a₀) (80 * n) x-length

    rest : drop (80 * n + 80) a₁ ≡ drop (80 * n + 80) a₀
    unfolding x s₀ es
    rest =
        ap (drop (80 * n + 80)) h.answered
        ∙ ap (λ k. drop (k + 80) (x ++ drop (80 * n) a₀)) (sym x-length)
        ∙ drop-append-add x (drop (80 * n) a₀) 80
        ∙ drop-drop 80 (80 * n) a₀

    more-answered : a₂ ≡ joined (answers t s₀ (cut 80 (n + 1) events)) ++ drop (80 * (n + 1)) a₀
    unfolding s₀ es e ans
    more-answered =
        let place : 80 * n + 80 ≡ 80 * (n + 1) = omega arith in
        step.answered
        ∙ ap₂ (λ l r. l ++ (answer t (shown t (clock_of c₁) m₁ n₁ b₁) e ++ r)) front (rest ∙ ap (λ k. drop k a₀) place)
        ∙ ap (λ s. x ++ (answer t s e ++ drop (80 * (n + 1)) a₀)) h.left
        ∙ sym (append_assoc x ans (drop (80 * (n + 1)) a₀))
        ∙ sym (ap (λ l. l ++ drop (80 * (n + 1)) a₀) more-joined)

    pub one_more : RunsTo t (n + 1) events c₀ m₀ n₀ b₀ a₀ c₂ m₂ n₂ b₂ a₂
    unfolding s₀ e
    one_more =
        let ranged : Ranged t (shown t (clock_of c₂) m₂ n₂ b₂) =
        subst (Ranged t) (sym step.left)
        (after-ranged t (accepted t h.ready.held.accepted) (shown t (clock_of c₁) m₁ n₁ b₁) h.ready.ranged e (length-take-le 80 (drop (80 * n) events) (simp length-drop (omega arith))))
        in
        record {
          ready = record { held = held_of h.ready.held.accepted ranged; ranged = ranged };
          answered = more-answered;
          left = more_left;
        }
