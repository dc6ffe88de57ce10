-- One text after another is one text. Assumes nothing.
use Prim.Native.Nat.{ℕ, zero, suc, ◌+◌, ◌-◌, ◌/◌, ◌%◌, ◌≤◌, ◌<◌}
use mathlib.Core.Path.{◌≡◌, refl, sym, ap, ap₂, ◌∙◌, subst}
use mathlib.Core.List.{List, [], ◌∷◌, ◌++◌, append_assoc}
use native.Mathlib.Nat.{add_assoc, add-zero}
use native.Mathlib.Numerals.{add-one}
use native.Mathlib.Omega.{arith}
use lib.ListN.{length, take, drop, get_or, length-append, length-take, length-drop, take-append-drop}
use lib.Seq.{take_at, drop-append-add, drop-drop, take-suc, length-take-le}
use borrow.Author.Tests.{lt-ltb, le-ltb}
use borrow.Rule.Slice.PartMut.{put_mid}
use Rattle.runner_text.specs.Text.{digits, field, hex, hex_byte}
use Rattle.runner_text.specs.Wrote.{put, Wrote, Adds}
use Rattle.runner_text.specs.declared.page.Page.{Page}

pub put-none : (out : List ℕ) (at : ℕ) → out ≡ put out at []
unfolding put
put-none out at = sym (ap (λ k. take at out ++ drop k out) (add-zero at) ∙ take-append-drop at out)

module _ (out : List ℕ) (at : ℕ) (xs ys : List ℕ) (fits : at + length xs ≤ length out) where
  abbrev head' : List ℕ
  head' = take at out ++ xs

  head-length : length head' ≡ at + length xs
  head-length = length-append (take at out) xs ∙ ap (λ k. k + length xs) (length-take-le at out (omega arith))

  put_is : put out at xs ≡ head' ++ drop (at + length xs) out
  unfolding put
  put_is = sym (append_assoc (take at out) xs (drop (at + length xs) out))

  rest : drop (at + length xs + length ys) (put out at xs) ≡ drop (at + length xs + length ys) out
  rest =
      ap (drop (at + length xs + length ys)) put_is
      ∙ ap (λ k. drop (k + length ys) (head' ++ drop (at + length xs) out)) (sym head-length)
      ∙ drop-append-add head' (drop (at + length xs) out) (length ys)
      ∙ drop-drop (length ys) (at + length xs) out

  front : take (at + length xs) (put out at xs) ≡ head'
  front = ap (take (at + length xs)) put_is ∙ take_at head' (drop (at + length xs) out) (at + length xs) head-length

  joined_length : at + length (xs ++ ys) ≡ at + length xs + length ys
  joined_length = ap (λ k. at + k) (length-append xs ys) ∙ sym (add_assoc at (length xs) (length ys))

  -- a text put after a text
  pub put-put : put (put out at xs) (at + length xs) ys ≡ put out at (xs ++ ys)
  unfolding put
  put-put =
      ap (λ l. l ++ (ys ++ drop (at + length xs + length ys) (put out at xs))) front
      ∙ ap (λ l. head' ++ (ys ++ l)) rest
      ∙ append_assoc (take at out) xs (ys ++ drop (at + length xs + length ys) out)
      ∙ ap (λ l. take at out ++ l) (sym (append_assoc xs ys (drop (at + length xs + length ys) out)))
      ∙ ap (λ k. take at out ++ ((xs ++ ys) ++ drop k out)) (sym joined_length)

-- the same of what functions promise
pub wrote_none : (out : List ℕ) (at : ℕ) → Wrote 0 [] out at at out
wrote_none out at = record { within = omega arith; after = sym (add-zero at); kept = refl; laid = put-none out at }

pub wrote_then : {m n : ℕ} {xs ys out out' out'' : List ℕ} {at mid next : ℕ} → at + m ≤ length out
    → Wrote m xs out at mid out' → Wrote n ys out' mid next out'' → Wrote (m + n) (xs ++ ys) out at next out''
wrote_then {m} {n} {xs} {ys} {out} {out'} {out''} {at} {mid} {next} fits f g =
    record {
      within = omega (arith, f.within, g.within);
      after = omega (arith, f.after, g.after, length-append xs ys);
      kept = g.kept ∙ f.kept;
      laid =
          g.laid
          ∙ ap (λ l. put l mid ys) f.laid
          ∙ ap (λ k. put (put out at xs) k ys) f.after
          ∙ put-put out at xs ys (omega (arith, f.after, f.within));
    }

-- what was written from the start of the bytes on
pub wrote-text : {m next : ℕ} {text out out' : List ℕ} → Wrote m text out 0 next out' → take next out' ≡ text
unfolding put
wrote-text {m} {next} {text} {out} f = ap₂ take f.after f.laid ∙ take_at text (drop (0 + length text) out) (0 + length text) (omega arith)

-- the same promise in other words
pub wrote_as : {m n : ℕ} {xs ys out out' : List ℕ} {at next : ℕ} → m ≤ n → xs ≡ ys → Wrote m xs out at next out' → Wrote n ys out at next out'
wrote_as {m} {n} {xs} {ys} {out} {out'} {at} {next} more same f =
    subst (λ l. Wrote n l out at next out') same
    (record { within = omega (arith, f.within); after = f.after; kept = f.kept; laid = f.laid })

-- hexadecimal digits
pub hex-append : (xs ys : List ℕ) → hex (xs ++ ys) ≡ hex xs ++ hex ys
hex-append [] ys = refl
hex-append (x ∷ xs) ys = ap (λ l. hex_byte x ++ l) (hex-append xs ys) ∙ sym (append_assoc (hex_byte x) (hex xs) (hex ys))

pub hex-more : (bytes : List ℕ) (i : ℕ) → i < length bytes → hex (take i bytes) ++ hex_byte (get_or bytes i 0) ≡ hex (take (i + 1) bytes)
unfolding hex_byte
hex-more bytes i below =
    sym (ap (λ k. hex (take k bytes)) (add-one i) ∙ ap hex (take-suc bytes i 0 below) ∙ hex-append (take i bytes) (get_or bytes i 0 ∷ []))

pub wrote-same : {m : ℕ} {xs ys out out' : List ℕ} {at next : ℕ} → xs ≡ ys → Wrote m xs out at next out' → Wrote m ys out at next out'
wrote-same same f = wrote_as (omega arith) same f

-- a text put into a part of the lent bytes
pub wrote-part : (out text ys : List ℕ) (at next : ℕ) → next ≡ at + length text → next ≤ length out → ys ≡ text
    → Wrote (length text) text out at next (put_mid at (next - at) out ys)
unfolding put
wrote-part out text ys at next e fits same =
    record {
      within = omega arith;
      after = e;
      kept = simp (length-append, length-take, length-drop, ap length same) (omega arith);
      laid = ap₂ (λ l k. take at out ++ (l ++ k)) same (drop-drop (next - at) at out ∙ ap (λ k. drop k out) (omega arith));
    }

-- the same of a page
pub adds_none : (p : Page) → Adds 0 [] p p
adds_none p = record { same = refl; wrote = wrote_none p.out.now p.end }

pub adds_then : {m n : ℕ} {xs ys : List ℕ} {p q r : Page} → p.end + m ≤ length p.out.now → Adds m xs p q → Adds n ys q r → Adds (m + n) (xs ++ ys) p r
adds_then fits f g = record { same = g.same ∙ f.same; wrote = wrote_then fits f.wrote g.wrote }

pub adds_as : {m n : ℕ} {xs ys : List ℕ} {p q : Page} → m ≤ n → xs ≡ ys → Adds m xs p q → Adds n ys p q
adds_as more same f = record { same = f.same; wrote = wrote_as more same f.wrote }

pub adds_same : {m : ℕ} {xs ys : List ℕ} {p q : Page} → xs ≡ ys → Adds m xs p q → Adds m ys p q
adds_same same f = adds_as (omega arith) same f

-- three texts, five texts
pub adds-three : {k m n : ℕ} {xs ys zs : List ℕ} {p q r s : Page} → p.end + (k + m) ≤ length p.out.now
    → Adds k xs p q → Adds m ys q r → Adds n zs r s → Adds (k + (m + n)) (xs ++ (ys ++ zs)) p s
adds-three fits f g h = adds_then (omega arith) f (adds_then (omega (arith, f.wrote.within, f.wrote.kept)) g h)

pub adds-five : {j k m n o : ℕ} {vs ws xs ys zs : List ℕ} {p q r s t u : Page} → p.end + (j + (k + (m + n))) ≤ length p.out.now
    → Adds j vs p q → Adds k ws q r → Adds m xs r s → Adds n ys s t → Adds o zs t u
    → Adds (j + (k + (m + (n + o)))) (vs ++ (ws ++ (xs ++ (ys ++ zs)))) p u
adds-five fits e f g h i =
    adds_then (omega arith) e
    (adds_then (omega (arith, e.wrote.within, e.wrote.kept)) f (adds-three (omega (arith, e.wrote.within, e.wrote.kept, f.wrote.within, f.wrote.kept)) g h i))

-- three numbers, each with a space after it
pub adds_fields : {p q r s : Page} {a b c x y z : ℕ} → p.end + 63 ≤ length p.out.now → a ≡ x → b ≡ y → c ≡ z
    → Adds 21 (field a) p q → Adds 21 (field b) q r → Adds 21 (field c) r s → Adds 63 (field x ++ (field y ++ field z)) p s
adds_fields fits first second third f g h =
    adds-three (omega arith) (adds_same (ap field first) f) (adds_same (ap field second) g) (adds_same (ap field third) h)

-- what a page that began with no text leaves in the lent bytes
pub adds_all : {n : ℕ} {xs out out' : List ℕ} {p q : Page} → p.out.now ≡ out → p.end ≡ 0 → Adds n xs p q → out' ≡ q.out.now → Wrote n xs out 0 q.end out'
adds_all {n} {xs} {out} {out'} {p} {q} lent start f left =
    subst (λ o. Wrote n xs out 0 q.end o) (sym left)
    (subst (λ o. Wrote n xs o 0 q.end q.out.now) lent (subst (λ e. Wrote n xs p.out.now e q.end q.out.now) start f.wrote))

-- digits, by the tests
pub digits-one : (k n : ℕ) → (k ≡ 0 → ⊥) → n < 10 → digits k n ≡ (48 + n) ∷ []
digits-one zero n some low = absurd (some refl)
digits-one (suc k) n some low = rw (lt-ltb n 10 low)

pub digits-next : (k n : ℕ) → 10 ≤ n → digits (suc k) n ≡ digits k (n / 10) ++ ((48 + n % 10) ∷ [])
digits-next k n high = rw (le-ltb n 10 high)
