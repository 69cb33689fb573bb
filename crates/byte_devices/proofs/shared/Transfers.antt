-- For laws of whole runs: what a run read and wrote, as `FromInput` and `ToOutput` say it, put together from its calls
-- one after another. A single call took nothing, all of a text, or some of it before a failure (took_nothing, took_all,
-- took_some). An output that took the text for some items, such as lines that were answered, takes the text for one
-- item more (took_one_more) or several (took_each), or fails in it (took_some_more).
use mathlib.Core.Bool.{or-true}
use Rattle.std.proofs.Common.{◌≡◌, ℕ, ◌-◌, ◌||◌, Bool, true, false, List, [], ◌∷◌, ◌++◌, length, take, if◌then◌else◌, suc, refl, sym, ap, subst, ◌∙◌, append_assoc, append-nil, arith, nat_lt}
use Rattle.std.proofs.lemmas.Bool.Decides.{nat_tests}
use Rattle.std.specs.Io.KnownBytes.{Appends}
use Rattle.byte_devices.specs.Devices.{InputState, OutputState, Took, TookThenFailed, Sent, saturating_increment, saturating_add}
use Rattle.byte_devices.specs.Transfers.{FromInput, ToOutput, OutputTook, nothing, all_of, all_flushed, all_unflushed}
use Rattle.byte_devices.proofs.shared.Devices.{appends_more, appends_none}

-- ---- counts

-- the count `n`, such as of a device's failures; or, if `rises` is true, one more, but at most 2 ^ 64 - 1
abbrev pub saturating_increment_if : Bool → ℕ → ℕ
saturating_increment_if rises n = if rises then saturating_increment n else n

-- ---- the input

-- what came from an input in a run without silences: the bytes `text`, and whether the end was reported and a read
-- failed. `r'` is its state after the run, which knows how many bytes the last read gave
abbrev pub came : InputState → List ℕ → Bool → Bool → FromInput
came r' text ended failed =
    record { text = text; early = take (length text - r'.last_len) text; ended = ended; failed = failed; silences = 0 }

-- ---- the output

-- what went to an output that took what `before` says, then a beginning of a text, and then failed
abbrev pub broke : ToOutput → List ℕ → ToOutput
broke before start = record before { left = before.left ++ start; failed = true }

-- what went to an output that took this text and left nothing unflushed, with a flush for each of these items, such as
-- lines that are answered; so there was none without an item
abbrev pub all_for : {A : Type 0} → List A → List ℕ → ToOutput
all_for items text = all_flushed (nat_lt 0 (length items)) text

-- `o` after `text`, which was flushed if `flushes` is true
abbrev after_text : Bool → List ℕ → ToOutput → ToOutput
after_text flushes text o = record o { flushed = text ++ o.flushed; any_flush = flushes || o.any_flush }

-- the bytes of a text that was flushed
flushed_bytes : (w w' : OutputState) (flushes : Bool) (text : List ℕ) → OutputTook w w' (all_flushed flushes text)
    → Appends w.known_bytes w'.known_bytes text
flushed_bytes w w' flushes text h = subst (Appends w.known_bytes w'.known_bytes) (append-nil text) h.bytes

-- a text that was appended to known bytes is itself followed by the empty text
all_bytes : (w w' : OutputState) (text : List ℕ) → Appends w.known_bytes w'.known_bytes text
    → Appends w.known_bytes w'.known_bytes (text ++ [])
all_bytes w w' text h = subst (Appends w.known_bytes w'.known_bytes) (sym (append-nil text)) h

-- an output that was left as it was
pub took_nothing : (w : OutputState) → OutputTook w w nothing
took_nothing w = record { bytes = appends_none w.known_bytes; flushed = λ e. refl; unflushed = refl; failures = refl }

-- a text was sent
pub took_all : (w w' : OutputState) (text : List ℕ) → Sent w w' text → OutputTook w w' (all_of text)
took_all w w' text h = record {
  bytes = all_bytes w w' text h.bytes;
  flushed = λ e. absurd cc;
  unflushed = h.flushed;
  failures = h.failures;
}

-- a text was written, and nothing flushed
pub took_unflushed : (w w' : OutputState) (text : List ℕ) → Took w w' text → OutputTook w w' (all_unflushed text)
took_unflushed w w' text h =
    record { bytes = h.bytes; flushed = λ e. refl; unflushed = h.unflushed; failures = h.failures }

-- a beginning of a text was written, and then a call failed
pub took_some : (w w' : OutputState) (start : List ℕ) → TookThenFailed w w' start → OutputTook w w' (broke nothing start)
took_some w w' start h =
    record { bytes = h.bytes; flushed = λ e. refl; unflushed = h.unflushed; failures = h.failures }

-- ---- one after the other

-- if `x || y` is false, both are false
neither : {P : Type 0} (x y : Bool) → (x || y) ≡ false → (x ≡ false → y ≡ false → P) → P
neither true y e p = absurd cc
neither false y e p = p refl e

-- how many bytes are unflushed after two steps, each with a flush or without (x, y)
left_at_last : (x y : Bool) (k l m n : ℕ) → l ≡ (if x then 0 else k)
    → m ≡ saturating_add (if y then 0 else l) n → m ≡ saturating_add (if x || y then 0 else k) n
left_at_last true true k l m n e f = f
left_at_last true false k l m n e f = f ∙ ap (λ v. saturating_add v n) e
left_at_last false true k l m n e f = f
left_at_last false false k l m n e f = f ∙ ap (λ v. saturating_add v n) e

-- an output that took a text, flushed or not, and then what `o` says, took both in that order
took_then : (a b c : OutputState) (flushes : Bool) (x : List ℕ) (o : ToOutput) → OutputTook a b (all_flushed flushes x)
    → OutputTook b c o → OutputTook a c (after_text flushes x o)
took_then a b c flushes x o h k = record {
  bytes = subst (Appends a.known_bytes c.known_bytes) (sym (append_assoc x o.flushed o.left))
      (appends_more a.known_bytes b.known_bytes c.known_bytes x (o.flushed ++ o.left) (flushed_bytes a b flushes x h)
      k.bytes);
  flushed = λ e. neither flushes o.any_flush e (λ none still.
      ap (λ (v : List ℕ). v ++ o.flushed) (h.flushed none) ∙ k.flushed still);
  unflushed = left_at_last flushes o.any_flush a.unflushed b.unflushed c.unflushed (length o.left) h.unflushed
      k.unflushed;
  failures = k.failures ∙ ap (saturating_increment_if o.failed) h.failures;
}

-- a number with one added is above 0
above_0 : (n : ℕ) → nat_lt 0 (suc n) ≡ true
above_0 n = grind (arith, nat_tests)

-- one of two lists has an element exactly if both together have one
some_of_both : {A : Type 0} (xs ys : List A)
    → (nat_lt 0 (length xs) || nat_lt 0 (length ys)) ≡ nat_lt 0 (length (xs ++ ys))
some_of_both [] ys = refl
some_of_both (x ∷ xs) ys =
    ap (λ (b : Bool). b || nat_lt 0 (length ys)) (above_0 (length xs)) ∙ sym (above_0 (length (xs ++ ys)))

-- with an item in the list there was a flush, so the text for these items is all flushed, whatever the other items are
pub some_for : {A : Type 0} (items : List A) (item : A) (more : List A) (text : List ℕ)
    → all_of text ≡ all_for (items ++ item ∷ more) text
some_for [] item more text = ap (λ (b : Bool). all_flushed b text) (sym (above_0 (length more)))
some_for (x ∷ items) item more text =
    ap (λ (b : Bool). all_flushed b text) (sym (above_0 (length (items ++ item ∷ more))))

-- more went to an output after a text that was flushed for these items
pub took_more : {A : Type 0} (a b c : OutputState) (items : List A) (x : List ℕ) (o : ToOutput)
    → OutputTook a b (all_for items x) → OutputTook b c o
    → OutputTook a c (after_text (nat_lt 0 (length items)) x o)
took_more a b c items x o h k = took_then a b c (nat_lt 0 (length items)) x o h k

-- the text for some items was taken, and then the one for more items: so both, for all these items
pub took_each : {A : Type 0} (a b c : OutputState) (items more : List A) (x y : List ℕ)
    → OutputTook a b (all_for items x) → OutputTook b c (all_for more y)
    → OutputTook a c (all_for (items ++ more) (x ++ y))
took_each a b c items more x y h k =
    subst (λ (flushes : Bool). OutputTook a c (all_flushed flushes (x ++ y))) (some_of_both items more)
    (took_then a b c (nat_lt 0 (length items)) x (all_for more y) h k)

-- a text was sent after those for these items
pub took_last : {A : Type 0} (a b c : OutputState) (items : List A) (x y : List ℕ)
    → OutputTook a b (all_for items x) → Sent b c y → OutputTook a c (all_of (x ++ y))
took_last a b c items x y h k =
    subst (λ (flushes : Bool). OutputTook a c (all_flushed flushes (x ++ y))) (or-true (nat_lt 0 (length items)))
    (took_then a b c (nat_lt 0 (length items)) x (all_of y) h (took_all b c y k))

-- a text was sent for one more item
pub took_one_more : {A : Type 0} (a b c : OutputState) (items : List A) (item : A) (x y : List ℕ)
    → OutputTook a b (all_for items x) → Sent b c y → OutputTook a c (all_for (items ++ item ∷ []) (x ++ y))
took_one_more a b c items item x y h k =
    subst (OutputTook a c) (some_for items item [] (x ++ y)) (took_last a b c items x y h k)

-- a beginning of a text was written after those for these items, and then a call failed
pub took_some_more : {A : Type 0} (w w' w'' : OutputState) (items : List A) (x start : List ℕ)
    → OutputTook w w' (all_for items x) → TookThenFailed w' w'' start → OutputTook w w'' (broke (all_for items x) start)
took_some_more w w' w'' items x start h k = took_then_broke (nat_lt 0 (length items)) h
  where
    took_then_broke : (flushes : Bool) → OutputTook w w' (all_flushed flushes x)
        → OutputTook w w'' (broke (all_flushed flushes x) start)
    took_then_broke flushes h = record {
      bytes = appends_more w.known_bytes w'.known_bytes w''.known_bytes x start (flushed_bytes w w' flushes x h) k.bytes;
      flushed = h.flushed;
      unflushed = k.unflushed ∙ ap (λ v. saturating_add v (length start)) h.unflushed;
      failures = k.failures ∙ ap saturating_increment h.failures;
    }
