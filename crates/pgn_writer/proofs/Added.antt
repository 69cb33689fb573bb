-- Texts that are added to a buffer one after the other. The writer has taken the front of all the bytes, and the buffer
-- holds the others (TookSome); or the writer failed, and took only a beginning of them (CutShort). This carries over
-- from parts to the whole: two texts (added_more, added_break), a list's (parts_more, parts_break), one put straight to
-- the writer (put_after), and the buffer's rest (finished). The buffer holds `w`, `x`, `y` before, between and after
-- the steps.
use Rattle.std.proofs.Common.{◌≡◌, ℕ, ◌+◌, ◌<◌, List, [], ◌++◌, length, get_or, take, drop, Result, Ok, Err, IsErr, sym, ap, ◌∙◌, append_assoc, append-nil, flat_map, take-append-drop}
use Rattle.std.proofs.lemmas.List.Concat.{flat_map-append}
use Rattle.byte_devices.specs.Devices.{OutputState, CutShort, Puts}
use Rattle.byte_devices.proofs.shared.Devices.{took_more, breaks_more, breaks_longer, flat_more}
use Rattle.pgn_writer.specs.ties.Waiting.{TookSome, Adds}

-- ---- texts that are added

-- two texts added one after the other are one text added
pub added_more : (a b c : OutputState) (w x y t u : List ℕ) → TookSome a b w x t → TookSome b c x y u
    → TookSome a c w y (t ++ u)
added_more a b c w x y t u h k = record {
  out = h.out ++ k.out;
  took = took_more a b c h.out k.out h.took k.took;
  is = sym (append_assoc w t u) ∙ ap (λ v. v ++ u) h.is ∙ append_assoc h.out x u ∙ ap (λ v. h.out ++ v) k.is
      ∙ sym (append_assoc h.out k.out y);
}

-- the first text was added, and at the second the writer failed: it took a beginning of both
pub added_break : (a b c : OutputState) (w x t u : List ℕ) → TookSome a b w x t → CutShort b c (x ++ u)
    → CutShort a c (w ++ (t ++ u))
added_break a b c w x t u h k =
    let all : w ++ (t ++ u) ≡ h.out ++ (x ++ u) =
    sym (append_assoc w t u) ∙ ap (λ v. v ++ u) h.is ∙ append_assoc h.out x u in
    rw all (breaks_more a b c h.out (x ++ u) h.took k)

-- if the writer failed at a text, it took a beginning also of any longer text that begins with it
pub break_longer : (a b : OutputState) (w t u : List ℕ) → CutShort a b (w ++ t) → CutShort a b (w ++ (t ++ u))
break_longer a b w t u h = rw (← append_assoc w t u) (breaks_longer a b (w ++ t) u h)

-- at the exit of a `?`, where the result is an error, a text that was cut short fulfils `Adds`
pub adds_exit : {A E : Type 0} (a b : OutputState) (r : Result A E) (w x t : List ℕ) → CutShort a b (w ++ t) → IsErr r
    → Adds a b w x r t
adds_exit a b (Ok v) w x t h k = cc
adds_exit a b (Err e) w x t h k = h

-- the first text was added, and the step for the second succeeded or failed: so did the step for both
pub adds_more : {A E : Type 0} (a b c : OutputState) (r : Result A E) (w x y t u : List ℕ) → TookSome a b w x t
    → Adds b c x y r u → Adds a c w y r (t ++ u)
adds_more a b c (Ok v) w x y t u h k = added_more a b c w x y t u h k
adds_more a b c (Err e) w x y t u h k = added_break a b c w x t u h k

-- the buffer was emptied into the writer, and then the text was put straight to the writer: this adds the text
pub put_after : {A E : Type 0} (a b c : OutputState) (r : Result A E) (w x t : List ℕ) → TookSome a b w x [] → x ≡ []
    → Puts b c r t → Adds a c w x r t
put_after {A = A} {E = E} a b c r w x t h none k = by_result r k
  where
    all : w ≡ h.out
    all = sym (append-nil w) ∙ h.is ∙ ap (λ v. h.out ++ v) none ∙ append-nil h.out

    by_result : (r : Result A E) → Puts b c r t → Adds a c w x r t
    by_result (Ok v) k = record {
      out = h.out ++ t;
      took = took_more a b c h.out t h.took k;
      is = ap (λ v. v ++ t) all ∙ sym (ap (λ v. (h.out ++ t) ++ v) none ∙ append-nil (h.out ++ t));
    }
    by_result (Err e) k = rw all (breaks_more a b c h.out t h.took k)

-- after a text was added, what the buffer holds is written: then the writer got all, or failed at some byte of it
pub finished : {A E : Type 0} (a b c : OutputState) (r : Result A E) (w x t : List ℕ) → TookSome a b w x t
    → Puts b c r x → Puts a c r (w ++ t)
finished a b c (Ok v) w x t h k = rw h.is (took_more a b c h.out x h.took k)
finished a b c (Err e) w x t h k = rw h.is (breaks_more a b c h.out x h.took k)

-- ---- the texts `f x` of the elements x of a list, added one after the other

-- the texts of the first i elements were added, and then that of element i: those of the first i + 1 were
pub parts_more : {X : Type 0} (a b c : OutputState) (w x y : List ℕ) (f : X → List ℕ) (xs : List X) (i : ℕ) (d : X)
    → i < length xs → TookSome a b w x (flat_map f (take i xs)) → TookSome b c x y (f (get_or xs i d))
    → TookSome a c w y (flat_map f (take (i + 1) xs))
parts_more a b c w x y f xs i d h s t = rw (flat_more f xs i d h)
    (added_more a b c w x y (flat_map f (take i xs)) (f (get_or xs i d)) s t)

-- the texts of the first i elements were added, and the writer failed at that of element i: it took a beginning of all
-- the texts
pub parts_break : {X : Type 0} (a b c : OutputState) (w x : List ℕ) (f : X → List ℕ) (xs : List X) (i : ℕ) (d : X)
    → i < length xs → TookSome a b w x (flat_map f (take i xs)) → CutShort b c (x ++ f (get_or xs i d))
    → CutShort a c (w ++ flat_map f xs)
parts_break a b c w x f xs i d h s t =
    let e : flat_map f xs ≡ flat_map f (take (i + 1) xs) ++ flat_map f (drop (i + 1) xs) =
    ap (flat_map f) (sym (take-append-drop (i + 1) xs)) ∙ flat_map-append f (take (i + 1) xs) (drop (i + 1) xs) in
    let front : flat_map f (take (i + 1) xs) ≡ flat_map f (take i xs) ++ f (get_or xs i d) = flat_more f xs i d h in
    rw (e, front) (break_longer a c w (flat_map f (take i xs) ++ f (get_or xs i d)) (flat_map f (drop (i + 1) xs))
    (added_break a b c w x (flat_map f (take i xs)) (f (get_or xs i d)) s t))
