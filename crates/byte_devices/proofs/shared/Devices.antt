-- For crates that read or write in steps: what one step more makes of the facts of specs/Devices. If a text was taken
-- (`Took`), or cut short by a failure (`CutShort`), after another one, the same is said of both texts together (_more;
-- of a list of texts: parts_), since their bytes are appended and their counts added. Also: where nothing happened
-- (_none), a text and then a flush (sent_on, flush_on), and where `?` returns an error (_exit).
use Rattle.std.proofs.Common.{◌≡◌, ℕ, zero, suc, ◌+◌, ◌^◌, ◌<◌, min, nat_eq, false, List, [], ◌++◌, length, take, drop, Option, None, Some, Result, Ok, Err, IsErr, refl, sym, ap, ◌∙◌, append_assoc, append-nil, arith, ◌-◌, get_or, add-one, ◌∷◌, flat_map, take-add, take-suc, take-append-drop, length-append}
use Rattle.std.specs.Io.KnownBytes.{Keeps, Appends, Consumes}
use Rattle.std.proofs.{lemmas.List.Concat.flat_map-append, lemmas.Grind.common_steps}
use Rattle.byte_devices.specs.Devices.{OutputState, Took, TookThenFailed, Sent, CutShort, Puts, Sends, FlushStep, saturating_increment, saturating_add}

-- one text was appended after another
pub appends_more : (a b c : Option (List ℕ)) (x y : List ℕ) → Appends a b x → Appends b c y → Appends a c (x ++ y)
appends_more None b c x y h k = tt
appends_more (Some s) None c x y h k = absurd h
appends_more (Some s) (Some t) None x y h k = absurd k
appends_more (Some s) (Some t) (Some u) x y h k = k ∙ ap (λ v. v ++ y) h ∙ append_assoc s x y

-- one piece was consumed after another
pub consumes_more : (a b c : Option (List ℕ)) (x y : List ℕ) → Consumes a b x → Consumes b c y → Consumes a c (x ++ y)
consumes_more None b c x y h k = tt
consumes_more (Some s) None c x y h k = absurd h
consumes_more (Some s) (Some t) None x y h k = absurd k
consumes_more (Some s) (Some t) (Some u) x y h k = h ∙ ap (λ v. x ++ v) k ∙ sym (append_assoc x y u)

-- where nothing changes, nothing was consumed
pub consumes_none : (a : Option (List ℕ)) → Consumes a a []
consumes_none None = tt
consumes_none (Some s) = refl

-- where nothing changes, nothing was appended
pub appends_none : (a : Option (List ℕ)) → Appends a a []
appends_none None = tt
appends_none (Some s) = sym (append-nil s)

-- if the known bytes were kept, none was consumed
pub consumes_kept : (a b : Option (List ℕ)) → Keeps a b → Consumes a b []
consumes_kept None b h = tt
consumes_kept (Some s) None h = absurd h
consumes_kept (Some s) (Some t) h = sym h

-- adding j and then k, each cut off at `top`, adds j + k, cut off at `top`
min_more : (n j k top : ℕ) → min (min (n + j) top + k) top ≡ min (n + (j + k)) top
min_more n j k top = grind (arith, common_steps)

-- the sum of a count and a number above 0, which stops at 2 ^ 64 - 1
pub add_some : (n k : ℕ) → 0 < k → saturating_add n k ≡ min (n + k) (2 ^ 64 - 1)
add_some n k h = let e : nat_eq k 0 ≡ false = grind arith in rw e refl

-- adding j and then k to a count is adding j + k to it
add_twice : (n j k : ℕ) → saturating_add (saturating_add n j) k ≡ saturating_add n (j + k)
add_twice n zero k = ap (saturating_add n) (omega arith)
add_twice n (suc j) zero = ap (saturating_add n) (omega arith)
add_twice n (suc j) (suc k) =
    add_some (saturating_add n (suc j)) (suc k) (omega arith)
    ∙ ap (λ c. min (c + suc k) (2 ^ 64 - 1)) (add_some n (suc j) (omega arith))
    ∙ min_more n (suc j) (suc k) (2 ^ 64 - 1) ∙ sym (add_some n (suc j + suc k) (omega arith))

-- adding 1 and then k to a count is adding 1 + k to it
pub add_one_more : (n k : ℕ) → saturating_add (saturating_increment n) k ≡ saturating_add n (1 + k)
unfolding saturating_increment
add_one_more n k = add_twice n 1 k

-- unflushed bytes counted for one text and then for a second are those counted for both together
unflushed_more : (l m n : ℕ) (x y : List ℕ) → m ≡ saturating_add l (length x) → n ≡ saturating_add m (length y)
    → n ≡ saturating_add l (length (x ++ y))
unflushed_more l m n x y e f =
    f ∙ ap (λ c. saturating_add c (length y)) e ∙ add_twice l (length x) (length y)
    ∙ ap (saturating_add l) (sym (length-append x y))

-- where nothing changes, nothing was taken
pub took_none : (a : OutputState) → Took a a []
took_none a = record { bytes = appends_none a.known_bytes; failures = refl; unflushed = refl }

-- one text was taken after another
pub took_more : (a b c : OutputState) (x y : List ℕ) → Took a b x → Took b c y → Took a c (x ++ y)
took_more a b c x y h k = record {
  bytes = appends_more a.known_bytes b.known_bytes c.known_bytes x y h.bytes k.bytes;
  failures = k.failures ∙ h.failures;
  unflushed = unflushed_more a.unflushed b.unflushed c.unflushed x y h.unflushed k.unflushed;
}

-- a text was taken, and then the beginning of another before a failure
pub failed_more : (a b c : OutputState) (x y : List ℕ) → Took a b x → TookThenFailed b c y → TookThenFailed a c (x ++ y)
failed_more a b c x y h k = record {
  bytes = appends_more a.known_bytes b.known_bytes c.known_bytes x y h.bytes k.bytes;
  failures = k.failures ∙ ap saturating_increment h.failures;
  unflushed = unflushed_more a.unflushed b.unflushed c.unflushed x y h.unflushed k.unflushed;
}

-- a text was taken, and then another was cut short
pub breaks_more : (a b c : OutputState) (x y : List ℕ) → Took a b x → CutShort b c y → CutShort a c (x ++ y)
breaks_more a b c x y h (start, (rest, is), k) =
    (x ++ start, (rest, append_assoc x start rest ∙ ap (λ v. x ++ v) is), failed_more a b c x start h k)

-- a text of which a beginning was written is itself a beginning of a longer one
pub breaks_longer : (a b : OutputState) (x y : List ℕ) → CutShort a b x → CutShort a b (x ++ y)
breaks_longer a b x y (start, (rest, is), k) =
    (start, (rest ++ y, sym (append_assoc start rest y) ∙ ap (λ v. v ++ y) is), k)

-- a text was taken, and then another was put: so both together were put
pub puts_more : {A E : Type 0} (a b c : OutputState) (r : Result A E) (x y : List ℕ) → Took a b x → Puts b c r y
    → Puts a c r (x ++ y)
puts_more a b c (Ok v) x y h k = took_more a b c x y h k
puts_more a b c (Err e) x y h k = breaks_more a b c x y h k

-- where `?` returns an error, the text was cut short
pub puts_exit : {A E : Type 0} (a b : OutputState) (r : Result A E) (x : List ℕ) → CutShort a b x → IsErr r
    → Puts a b r x
puts_exit a b (Ok v) x h k = cc
puts_exit a b (Err e) x h k = h

-- the rest of a slice, as code cuts it
pub rest_is : (at : ℕ) (xs : List ℕ) → take (length xs - at) (drop at xs) ≡ drop at xs
rest_is at xs = grind (arith, common_steps)

-- the first `at` bytes of a text were taken, and then a write took `n` of the others: so the first `at + n` were
pub wrote_more : (a b c : OutputState) (at n : ℕ) (text : List ℕ) → Took a b (take at text)
    → Took b c (take n (take (length text - at) (drop at text))) → Took a c (take (at + n) text)
wrote_more a b c at n text h k =
    rw (take-add at n text) (took_more a b c (take at text) (take n (drop at text)) h (rw (rest_is at text) at k))

-- the first `at` bytes were taken, and then a write failed: the text was cut short
pub wrote_part : (a b c : OutputState) (at : ℕ) (text : List ℕ) → Took a b (take at text) → TookThenFailed b c []
    → CutShort a c text
wrote_part a b c at text h k = (
  take at text ++ [],
  (drop at text, rw (append-nil, take-append-drop) refl),
  failed_more a b c (take at text) [] h
      k,
)

-- a text was taken, and then a flush succeeded: the text was sent
pub sent_on : (a b c : OutputState) (x : List ℕ) → Took a b x → Sent b c [] → Sent a c x
sent_on a b c x h k = record {
  bytes = rw (← append-nil x) (appends_more a.known_bytes b.known_bytes c.known_bytes x [] h.bytes k.bytes);
  failures = k.failures ∙ h.failures;
  flushed = k.flushed;
}

-- a text was taken, and then came a flush
pub flush_on : {A E : Type 0} (a b c : OutputState) (r : Result A E) (x : List ℕ) → Took a b x → FlushStep b c r
    → Sends a c r x
flush_on a b c (Ok v) x h k = sent_on a b c x h k
flush_on a b c (Err e) x h k = (x ++ [], ([], append_assoc x [] [] ∙ append-nil x), failed_more a b c x [] h k)

-- where `?` returns an error, the text that was to be sent was cut short
pub sends_exit : {A E : Type 0} (a b : OutputState) (r : Result A E) (x : List ℕ) → CutShort a b x → IsErr r
    → Sends a b r x
sends_exit a b (Ok v) x h k = cc
sends_exit a b (Err e) x h k = h

-- the text made of a list of one element is that element's text
flat_one : {X : Type 0} (f : X → List ℕ) (x : X) → flat_map f (x ∷ []) ≡ f x
flat_one f x = append-nil (f x)

-- the texts of a list's first elements, with the next one's at the end
pub flat_more : {X : Type 0} (f : X → List ℕ) (xs : List X) (i : ℕ) (d : X) → i < length xs
    → flat_map f (take (i + 1) xs) ≡ flat_map f (take i xs) ++ f (get_or xs i d)
flat_more f xs i d h =
    ap (flat_map f) (rw add-one (take-suc xs i d h)) ∙ flat_map-append f (take i xs) (get_or xs i d ∷ [])
    ∙ ap (λ v. flat_map f (take i xs) ++ v) (flat_one f (get_or xs i d))

-- the texts of the first `i` elements of a list were taken, and then the next one's: so those of the first `i + 1` were
pub parts_more : {X : Type 0} (a b c : OutputState) (f : X → List ℕ) (xs : List X) (i : ℕ) (d : X) → i < length xs
    → Took a b (flat_map f (take i xs)) → Took b c (f (get_or xs i d)) → Took a c (flat_map f (take (i + 1) xs))
parts_more a b c f xs i d h s t =
    rw (flat_more f xs i d h) (took_more a b c (flat_map f (take i xs)) (f (get_or xs i d)) s t)

-- the texts of the first `i` elements were taken, and then the next one's was cut short: so was the text of all
pub parts_break : {X : Type 0} (a b c : OutputState) (f : X → List ℕ) (xs : List X) (i : ℕ) (d : X) → i < length xs
    → Took a b (flat_map f (take i xs)) → CutShort b c (f (get_or xs i d)) → CutShort a c (flat_map f xs)
parts_break a b c f xs i d h s t =
    let e : flat_map f xs ≡ flat_map f (take (i + 1) xs) ++ flat_map f (drop (i + 1) xs) =
    ap (flat_map f) (sym (take-append-drop (i + 1) xs)) ∙ flat_map-append f (take (i + 1) xs) (drop (i + 1) xs) in
    rw e (rw (flat_more f xs i d h)
    (breaks_longer a c (flat_map f (take i xs) ++ f (get_or xs i d)) (flat_map f (drop (i + 1) xs))
    (breaks_more a b c (flat_map f (take i xs)) (f (get_or xs i d)) s t)))
