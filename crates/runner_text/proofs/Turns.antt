-- The text of an input is the lines of whole records at its start, and then the text of the rest, from the state after them: so it does not
-- matter in which turns the input is taken. Assumes nothing.
use Prim.Native.Nat.{ℕ, zero, suc, ◌+◌, ◌*◌, ◌/◌, ◌%◌, ◌≤◌, ◌<◌}
use mathlib.Core.Path.{◌≡◌, refl, sym, ap, ap₂, ◌∙◌}
use mathlib.Core.Bool.{false, true≢false}
use mathlib.Core.List.{List, [], ◌∷◌, ◌++◌, append_assoc, append-nil}
use native.Mathlib.Nat.{add_assoc, add-zero, add-suc}
use native.Mathlib.Omega.{arith}
use lib.Dec.{eqb}
use lib.ListN.{length, take, drop, length-append, length-take, length-drop, take-append-drop}
use lib.Seq.{length-take-le, take-append-le, drop-append-le, drop-append-add, take_all}
use borrow.Author.Tests.{eqb-true, eqb-false}
use Rattle.model.specs.Words.{cut}
use Rattle.model.specs.Tables.{Tables}
use Rattle.model.specs.Load.{Verdict, accepted, refused, load_of, is_accepted, accepts}
use Rattle.model.specs.State.{State, loaded}
use Rattle.model.specs.Events.{Event}
use Rattle.model.specs.Step.{answer, after}
use Rattle.model.specs.Run.{answers, after_all, events_of, joined}
use Rattle.model.proofs.Tests.{by-test}
use Rattle.model.proofs.Lists.{answers-append, joined-append, events-append, answer-length}
use Rattle.runner_text.specs.Text.{line, record_at, lines, tables_refused}
use Rattle.runner_text.specs.Output.{lines_from, torn_text, text_from, tables_of, unless_refused, output, in_turns}
use Rattle.runner_text.proofs.Long.{long-refused}

-- a record of lists joined
record-front : (a b : List ℕ) (i : ℕ) → 80 * i + 80 ≤ length a → record_at (a ++ b) i ≡ record_at a i
record-front a b i there =
    ap (take 80) (drop-append-le (80 * i) a b (omega arith)) ∙ take-append-le 80 (drop (80 * i) a) b (simp length-drop (omega arith))

record-back : (a b : List ℕ) (n i : ℕ) → length a ≡ 80 * n → record_at (a ++ b) (n + i) ≡ record_at b i
record-back a b n i long =
    let place : 80 * (n + i) ≡ length a + 80 * i = omega arith in
    ap (λ k. take 80 (drop k (a ++ b))) place ∙ ap (take 80) (drop-append-add a b (80 * i))

-- the same records give the same lines
lines_same : (first : ℕ) (a a' c c' : List ℕ) (n : ℕ) → ((i : ℕ) → i < n → record_at a i ≡ record_at a' i) → ((i : ℕ) → i < n → record_at c i ≡ record_at c' i)
    → lines first a c n ≡ lines first a' c' n
lines_same first a a' c c' zero events replies = refl
lines_same first a a' c c' (suc n) events replies =
    let before = lines_same first a a' c c' n (λ i h. events i (omega arith)) (λ i h. replies i (omega arith)) in
    let event = events n (omega arith) in
    let reply = replies n (omega arith) in
    cc

-- bytes after those of the records do not matter
lines-front : (first : ℕ) (a b c d : List ℕ) (n : ℕ) → 80 * n ≤ length a → 80 * n ≤ length c → lines first (a ++ b) (c ++ d) n ≡ lines first a c n
lines-front first a b c d n events replies =
    lines_same first (a ++ b) a (c ++ d) c n (λ i h. record-front a b i (omega arith)) (λ i h. record-front c d i (omega arith))

pub lines-answers : (first : ℕ) (a c d : List ℕ) (n : ℕ) → 80 * n ≤ length c → lines first a (c ++ d) n ≡ lines first a c n
lines-answers first a c d n replies = lines_same first a a (c ++ d) c n (λ i h. refl) (λ i h. record-front c d i (omega arith))

-- the lines of lists joined are lines after lines
module _ (first : ℕ) (a b c d : List ℕ) (n : ℕ) (events : length a ≡ 80 * n) (replies : length c ≡ 80 * n) where
  pub lines-append : (m : ℕ) → lines first (a ++ b) (c ++ d) (n + m) ≡ lines first a c n ++ lines (first + n) b d m
  lines-append zero =
      ap (lines first (a ++ b) (c ++ d)) (add-zero n)
      ∙ lines-front first a b c d n (omega arith) (omega arith)
      ∙ sym (append-nil (lines first a c n))
  lines-append (suc m) =
      ap (lines first (a ++ b) (c ++ d)) (add-suc n m)
      ∙ ap₂ (λ l k. l ++ k) (lines-append m)
      (ap (λ k. line k (record_at (a ++ b) (n + m)) (record_at (c ++ d) (n + m))) (sym (add_assoc first n m))
      ∙ ap₂ (line (first + n + m)) (record-back a b n m events) (record-back c d n m replies))
      ∙ append_assoc (lines first a c n) (lines (first + n) b d m) (line (first + n + m) (record_at b m) (record_at d m))

-- as many answers as events, each of 80 bytes
cut-length : (size n : ℕ) (b : List ℕ) → length (cut size n b) ≡ n
cut-length size zero b = refl
cut-length size (suc n) b = ap suc (cut-length size n (drop size b))

answers-bytes : (t : Tables) (s : State) (es : List Event) → length (joined (answers t s es)) ≡ 80 * length es
answers-bytes t s [] = refl
answers-bytes t s (e ∷ es) =
    length-append (answer t s e) (joined (answers t (after t s e) es)) ∙ omega (arith, answer-length t s e, answers-bytes t (after t s e) es)

pub answers-length : (t : Tables) (s : State) (b : List ℕ) → length (joined (answers t s (events_of b))) ≡ 80 * (length b / 80)
unfolding events_of
answers-length t s b = answers-bytes t s (events_of b) ∙ ap (λ n. 80 * n) (cut-length 80 (length b / 80) b)

-- whole records, and what comes after them
module _ (t : Tables) (s : State) (first : ℕ) (a b : List ℕ) (whole : length a % 80 ≡ 0) where
  abbrev later : State
  later = after_all t s (events_of a)

  answers-joined : joined (answers t s (events_of (a ++ b))) ≡ joined (answers t s (events_of a)) ++ joined (answers t later (events_of b))
  answers-joined =
      ap (λ es. joined (answers t s es)) (events-append a b whole)
      ∙ ap joined (answers-append t s (events_of a) (events_of b))
      ∙ joined-append (answers t s (events_of a)) (answers t later (events_of b))

  pub lines-from-append : lines_from t s first (a ++ b) ≡ lines_from t s first a ++ lines_from t later (first + length a / 80) b
  unfolding lines_from
  lines-from-append =
      let count : length (a ++ b) / 80 ≡ length a / 80 + length b / 80 = simp length-append (omega arith) in
      ap₂ (lines first (a ++ b)) answers-joined count
      ∙ lines-append first a b (joined (answers t s (events_of a))) (joined (answers t later (events_of b))) (length a / 80) (omega arith) (answers-length t s a) (length b / 80)

  pub text-append : text_from t s first (a ++ b) ≡ lines_from t s first a ++ text_from t later (first + length a / 80) b
  unfolding text_from
  text-append =
      let left : length (a ++ b) % 80 ≡ length b % 80 = simp length-append (omega arith) in
      ap₂ (λ l n. l ++ torn_text n) lines-from-append left
      ∙ append_assoc (lines_from t s first a) (lines_from t later (first + length a / 80) b) (torn_text (length b % 80))

  -- whole records alone have no broken tail
  text-whole : text_from t s first a ≡ lines_from t s first a
  unfolding text_from
  text-whole = ap (λ n. lines_from t s first a ++ torn_text n) whole ∙ append-nil (lines_from t s first a)

-- an input is its whole records, and then its broken tail
module _ (t : Tables) (s : State) (first : ℕ) where
  broken-text : (b : List ℕ) → length b < 80 → text_from t s first b ≡ torn_text (length b)
  unfolding text_from lines_from
  broken-text b short =
      let none : length b / 80 ≡ 0 = omega arith in
      let all : length b % 80 ≡ length b = omega arith in
      ap₂ (λ n k. lines first b (joined (answers t s (events_of b))) n ++ torn_text k) none all

broken-events : (b : List ℕ) → length b < 80 → events_of b ≡ []
unfolding events_of
broken-events b short =
    let none : length b / 80 ≡ 0 = omega arith in
    ap (λ n. cut 80 n b) none

module _ (input : List ℕ) where
  abbrev whole_records : List ℕ
  whole_records = take (80 * (length input / 80)) input

  whole_length : length whole_records ≡ 80 * (length input / 80)
  whole_length = length-take-le (80 * (length input / 80)) input (omega arith)

  broken-length : length (drop (80 * (length input / 80)) input) ≡ length input % 80
  broken-length = length-drop (80 * (length input / 80)) input ∙ omega arith

  pub events-whole : events_of whole_records ≡ events_of input
  events-whole =
      let rest = drop (80 * (length input / 80)) input in
      sym
      (ap events_of (sym (take-append-drop (80 * (length input / 80)) input))
      ∙ events-append whole_records rest (omega (arith, whole_length))
      ∙ ap (λ es. events_of whole_records ++ es) (broken-events rest (omega (arith, broken-length)))
      ∙ append-nil (events_of whole_records))

  pub text-split : (t : Tables) (s : State) (first : ℕ) → text_from t s first input ≡ lines_from t s first whole_records ++ torn_text (length input % 80)
  text-split t s first =
      let rest = drop (80 * (length input / 80)) input in
      ap (text_from t s first) (sym (take-append-drop (80 * (length input / 80)) input))
      ∙ text-append t s first whole_records rest (omega (arith, whole_length))
      ∙ ap (λ l. lines_from t s first whole_records ++ l)
      (broken-text t (after_all t s (events_of whole_records)) (first + length whole_records / 80) rest (omega (arith, broken-length)) ∙ ap torn_text broken-length)

-- a turn whose read was full, and the text of what comes after it
pub turn-full : (t : Tables) (s : State) (turns : ℕ) (read rest : List ℕ) → length read ≡ 32000 → {text : List ℕ} → text ≡ text_from t (after_all t s (events_of read)) (400 * suc turns) rest
    → text_from t s (400 * turns) read ++ text ≡ text_from t s (400 * turns) (read ++ rest)
turn-full t s turns read rest long {text} told =
    let whole : length read % 80 ≡ 0 = omega arith in
    let place : 400 * suc turns ≡ 400 * turns + length read / 80 = omega arith in
    ap₂ (λ l m. l ++ m) (text-whole t s (400 * turns) read rest whole) (told ∙ ap (λ k. text_from t (after_all t s (events_of read)) k rest) place)
    ∙ sym (text-append t s (400 * turns) read rest whole)

-- an input taken in turns gives the text of the whole, where the turns suffice
pub in-turns : (n : ℕ) (t : Tables) (s : State) (turns : ℕ) (input : List ℕ) → length input < 32000 * n → in_turns n t s turns input ≡ text_from t s (400 * turns) input
in-turns zero t s turns input short = absurd (omega arith)
in-turns (suc n) t s turns input short =
    by-test (λ l. text_from t s (400 * turns) (take 32000 input) ++ l ≡ text_from t s (400 * turns) input) (eqb (length (take 32000 input)) 32000)
    (λ e.
    let long : length (take 32000 input) ≡ 32000 = eqb-true (length (take 32000 input)) 32000 e in
    turn-full t s turns (take 32000 input) (drop 32000 input) long
    (in-turns n t (after_all t s (events_of (take 32000 input))) (suc turns) (drop 32000 input) (omega (arith, length-drop 32000 input, length-take 32000 input)))
    ∙ ap (text_from t s (400 * turns)) (take-append-drop 32000 input))
    (λ e.
    append-nil (text_from t s (400 * turns) (take 32000 input))
    ∙ ap (text_from t s (400 * turns)) (take_all 32000 input (omega (arith, length-take 32000 input, eqb-false (length (take 32000 input)) 32000 e))))

-- so does the whole output: no input has 32,000 times 2 ^ 54 bytes
pub output-in-turns : (n : ℕ) (file input : List ℕ) → length input < 32000 * n
    → output file input ≡ unless_refused (load_of (tables_of file)) (in_turns n (tables_of file) (loaded (tables_of file)) 0 input)
unfolding output
output-in-turns n file input short = ap (unless_refused (load_of (tables_of file))) (sym (in-turns n (tables_of file) (loaded (tables_of file)) 0 input short))

-- a load that is not accepted prints its refusal, whatever the input
pub refused-output : (file input : List ℕ) → accepts (tables_of file) ≡ false → (number : ℕ) × (place : ℕ) × (output file input ≡ tables_refused number place)
unfolding output accepts
refused-output file input e = go (load_of (tables_of file)) e
  where
    go : (v : Verdict) → is_accepted v ≡ false → (number : ℕ) × (place : ℕ) × (unless_refused v (text_from (tables_of file) (loaded (tables_of file)) 0 input) ≡ tables_refused number place)
    go accepted e = absurd (true≢false e)
    go (refused number place) e = (number, place, refl)

-- a file of more than 7,728 bytes is refused
pub long-output : (file input : List ℕ) → 7728 < length file → (number : ℕ) × (place : ℕ) × (output file input ≡ tables_refused number place)
unfolding tables_of
long-output file input h = refused-output file input (long-refused file h)
