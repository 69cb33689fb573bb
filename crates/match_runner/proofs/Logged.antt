-- How the log is put together: texts logged one after another make the log of both (logged_more, and adds_more while
-- bytes still wait to be written), a line is logged once no byte of it waits (line_logged), and the lines of the notes
-- make the log of a match (notes_logged).
use Rattle.std.proofs.Common.{◌≡◌, ℕ, suc, ◌+◌, ◌<◌, min, length, drop, take, get_or, not, Bool, true, false, List, [], ◌∷◌, ◌++◌, refl, ap, sym, ◌∙◌, subst, append_assoc, append-nil, Option, Some, None, Result, Ok, Err, arith, is_err, ◌==◌, ◌||◌, nat_lt, flat_map, if◌then◌else◌}
use native.Mathlib.Numerals.{unary_clauses}
use Rattle.std.specs.List.{onto_first, position_or_len}
use Rattle.std.proofs.{lemmas.Bool.Decides.nat_tests, lemmas.List.drop_min, lemmas.List.drop_more}
use Rattle.byte_devices.specs.{Bytes.byte, Bytes.new_line, Devices.OutputState, Devices.Sends}
use Rattle.chess_base.specs.{declared.man.Colour.Colour, declared.man.Colour.TheVariants.White, declared.man.Colour.TheVariants.Black}
use Rattle.byte_devices.specs.Transfers.{OutputTook, nothing, all_of}
use Rattle.byte_devices.proofs.shared.Transfers.{broke, all_for, some_for, took_all, took_each, took_more, took_nothing, took_some}
use Rattle.chess_match.specs.Notes.{Note, Gives, WasNoted}
use Rattle.match_runner.specs.Log.{LogSeen, Logged, LogsNote, engine_name, lines_in, log_from, log_line, log_seen, moment_after, note_text}
use Rattle.match_runner.specs.ties.Logging.{Adds, IsLog, LogsPending, first_of_text, log_of_text, moment_from, noted_by, text_of_log}
use Rattle.match_runner.specs.{declared.log.Log.Log, declared.log.Pending.Pending}

-- ---- the output

-- with nothing logged and nothing waiting, the log is as it was, broken or not
pends_none : (b : Bool) (o : OutputState) → LogsPending b b o o [] []
pends_none false o = ([], took_nothing o, refl)
pends_none true o = (refl, refl)

-- once no byte waits, `LogsPending` gives `Logged`; `none`: a log that was given no text is as it was
all_logged : (b b' : Bool) (o o' : OutputState) (text : List ℕ) (none : text ≡ [] → log_seen o' b' ≡ log_seen o b)
    → LogsPending b b' o o' [] text → Logged (log_seen o b) (log_seen o' b') text
all_logged false false o o' text none (written, took, is) = (
  λ e. absurd (cc),
  none,
  λ e. (all_for written written, took, ap (λ t. all_for t t) (sym (append-nil written) ∙ is)),
)
all_logged false true o o' text none h = (λ e. absurd (cc), none, λ e. h)
all_logged true b' o o' text none (still, same) =
    (λ e. ap (log_seen o') still ∙ ap (λ v. log_seen v true) same, none, λ e. absurd (cc))

-- conversely `Logged` gives `LogsPending` with no byte waiting
pends_nothing : (b b' : Bool) (o o' : OutputState) (text : List ℕ) → Logged (log_seen o b) (log_seen o' b') text
    → LogsPending b b' o o' [] text
pends_nothing false false o o' text h =
    let (t, took, is) = h.2 refl in (text, subst (OutputTook o o') is took, append-nil text)
pends_nothing false true o o' text h = h.2 refl
pends_nothing true b' o o' text h =
    (ap (λ (l : LogSeen). l.broken) (h.0 refl), ap (λ (l : LogSeen). l.output) (h.0 refl))

pub logs_none : (l : LogSeen) → Logged l l []
logs_none l =
    all_logged l.broken l.broken l.output l.output [] (λ e. refl) (pends_none l.broken l.output)

-- a text was sent, or a beginning of it was
pub logs_sent : {A E : Type 0} (o o' : OutputState) (r : Result A E) (failed : Bool) (text : List ℕ)
    → 0 < length text → Sends o o' r text → failed ≡ is_err r → Logged (log_seen o false) (log_seen o' failed) text
logs_sent o o' (Ok v) failed [] some sent is = absurd (omega (arith, some))
logs_sent o o' (Ok v) failed (b ∷ text) some sent is =
    subst (λ (c : Bool). Logged (log_seen o false) (log_seen o' c) (b ∷ text)) (sym is) (
      λ e. absurd (cc),
      λ e. absurd (cc),
      λ e. (all_of (b ∷ text), took_all o o' (b ∷ text) sent, some_for [] b text (b ∷ text)),
    )
logs_sent o o' (Err e) failed [] some h is = absurd (omega (arith, some))
logs_sent o o' (Err e) failed (b ∷ text) some (start, begins, failing) is =
    subst (λ (c : Bool). Logged (log_seen o false) (log_seen o' c) (b ∷ text)) (sym is) (
      λ e. absurd (cc),
      λ e. absurd (cc),
      λ e. (broke nothing start, took_some o o' start failing, (begins, refl)),
    )

-- bytes that were added to those that wait are added to the text
logs_pending : (b b' : Bool) (o o' : OutputState) (pending text more : List ℕ) → LogsPending b b' o o' pending text
    → LogsPending b b' o o' (pending ++ more) (text ++ more)
logs_pending false false o o' pending text more (written, took, is) =
    (written, took, sym (append_assoc written pending more) ∙ ap (λ (l : List ℕ). l ++ more) is)
logs_pending false true o o' pending text more (t, took, ((rest, is), failed)) = (
  t,
  took,
  ((rest ++ more, sym (append_assoc (t.flushed ++ t.left) rest more) ∙ ap (λ (l : List ℕ). l ++ more) is), failed),
)
logs_pending true b' o o' pending text more h = h

-- the pending bytes were logged
logs_flushed : (b b' b'' : Bool) (o o' o'' : OutputState) (pending text : List ℕ) → LogsPending b b' o o' pending text
    → LogsPending b' b'' o' o'' [] pending → LogsPending b b'' o o'' [] text
logs_flushed false false false o o' o'' pending text (x, h, is) (y, k, all) = (
  x ++ y,
  took_each o o' o'' x y x y h k,
  append_assoc x y [] ∙ ap (λ (l : List ℕ). x ++ l) all ∙ is,
)
logs_flushed false false true o o' o'' pending text (x, h, is) (t, k, ((rest, all), failed)) = (
  record t { flushed = x ++ t.flushed; any_flush = nat_lt 0 (length x) || t.any_flush },
  took_more o o' o'' x x t h k,
  (
    (
      rest,
      ap (λ (l : List ℕ). l ++ rest) (append_assoc x t.flushed t.left)
          ∙ append_assoc x (t.flushed ++ t.left) rest ∙ ap (λ (l : List ℕ). x ++ l) all ∙ is,
    ),
    failed,
  ),
)
logs_flushed false true b'' o o' o'' pending text h (broken, same) =
    subst (λ (b : Bool). LogsPending false b o o'' [] text) (sym broken)
    (subst (λ (v : OutputState). LogsPending false true o v [] text) (sym same) h)
logs_flushed true b' b'' o o' o'' pending text (broken, same) k =
    let (still, kept) = subst (λ (b : Bool). LogsPending b b'' o' o'' [] pending) broken k in (still, kept ∙ same)

-- if both texts are empty, the log is as it was
still_none : (l l' l'' : LogSeen) (x y : List ℕ) → (x ≡ [] → l' ≡ l) → (y ≡ [] → l'' ≡ l') → x ++ y ≡ [] → l'' ≡ l
still_none l l' l'' [] y h k e = k e ∙ h refl
still_none l l' l'' (b ∷ x) y h k e = absurd (cc)

-- a text was logged, and then another
pub logged_more : (l l' l'' : LogSeen) (x y : List ℕ) → Logged l l' x → Logged l' l'' y → Logged l l'' (x ++ y)
logged_more l l' l'' x y h k =
    all_logged l.broken l''.broken l.output l''.output (x ++ y) (still_none l l' l'' x y h.1 k.1)
    (logs_flushed l.broken l'.broken l''.broken l.output l'.output l''.output y (x ++ y)
    (logs_pending l.broken l'.broken l.output l'.output [] x y
    (pends_nothing l.broken l'.broken l.output l'.output x h))
    (pends_nothing l'.broken l''.broken l'.output l''.output y k))

-- ---- pending bytes

-- two texts added one after the other are added as one
pub adds_more : (o o' o'' : OutputState) (p p' p'' : Pending) (a b : List ℕ) → Adds o o' p p' a → Adds o' o'' p' p'' b
    → Adds o o'' p p'' (a ++ b)
adds_more o o' o'' p p' p'' a b x y = record {
  after = λ from text h. subst (λ (t : List ℕ). LogsPending from.broken p''.broken from.output o'' p''.bytes.items t)
      (append_assoc text a b) (y.after from (text ++ a) (x.after from text h));
}

-- an equal text was added
pub adds_as : (o o' : OutputState) (p p' : Pending) (a b : List ℕ) → a ≡ b → Adds o o' p p' a → Adds o o' p p' b
adds_as o o' p p' a b e x = subst (λ (t : List ℕ). Adds o o' p p' t) e x

-- a byte that was put with those that wait was added
pub adds_pending : (o : OutputState) (p p' : Pending) (b : ℕ) → p'.broken ≡ p.broken
    → p'.bytes.items ≡ p.bytes.items ++ b ∷ [] → Adds o o p p' (b ∷ [])
adds_pending o p p' b same more = record {
  after = λ from text h.
      subst (λ (c : Bool). LogsPending from.broken c from.output o p'.bytes.items (text ++ b ∷ [])) (sym same)
      (subst (λ (l : List ℕ). LogsPending from.broken p.broken from.output o l (text ++ b ∷ [])) (sym more)
      (logs_pending from.broken p.broken from.output o p.bytes.items text (b ∷ []) h));
}

-- the pending bytes were logged
pub adds_flushed : (o o' : OutputState) (p p' : Pending)
    → Logged (log_seen o p.broken) (log_seen o' p'.broken) p.bytes.items → p'.bytes.items ≡ [] → Adds o o' p p' []
adds_flushed o o' p p' k none = record {
  after = λ from text h.
      subst (λ (l : List ℕ). LogsPending from.broken p'.broken from.output o' l (text ++ [])) (sym none)
      (subst (λ (t : List ℕ). LogsPending from.broken p'.broken from.output o' [] t) (sym (append-nil text))
      (logs_flushed from.broken p.broken p'.broken from.output o o' p.bytes.items text h
      (pends_nothing p.broken p'.broken o o' p.bytes.items k)));
}

-- a text with an end isn't empty
ends_somewhere : (start : List ℕ) (last : ℕ) → start ++ last ∷ [] ≡ [] → ⊥
ends_somewhere [] last e = absurd (cc)
ends_somewhere (b ∷ start) last e = absurd (cc)

-- a line that was added when no byte waited, and after which none waits, was logged
pub line_logged : (b : Bool) (o o' : OutputState) (p p' : Pending) (start : List ℕ) → p.broken ≡ b
    → p.bytes.items ≡ [] → p'.bytes.items ≡ [] → Adds o o' p p' (start ++ new_line ∷ [])
    → Logged (log_seen o b) (log_seen o' p'.broken) (start ++ new_line ∷ [])
line_logged b o o' p p' start same none ended a =
    let text : List ℕ = start ++ new_line ∷ [] in
    all_logged b p'.broken o o' text (λ e. absurd (ends_somewhere start new_line e))
    (subst (λ (l : List ℕ). LogsPending b p'.broken o o' l text) ended
    (a.after (record { output = o; broken = b }) []
    (subst (λ (l : List ℕ). LogsPending b p.broken o o l []) (sym none)
    (subst (λ (c : Bool). LogsPending b c o o [] []) (sym same) (pends_none b o)))))

-- ---- bytes and lines, one after the other

-- a loop over the bytes of a text keeps: what was done so far, and F of the bytes from index i on, make F of the whole
-- text. One byte more, whose part of F is `piece`, keeps that
pub loop_step : (F : List ℕ → List ℕ) (text : List ℕ) (i : ℕ) (piece done : List ℕ) → i < length text
    → ((rest : List ℕ) → F (get_or text i 0 ∷ rest) ≡ piece ++ F rest) → done ++ F (drop i text) ≡ F text
    → (done ++ piece) ++ F (drop (i + 1) text) ≡ F text
loop_step F text i piece done lt f h =
    append_assoc done piece (F (drop (i + 1) text))
    ∙ ap (λ (l : List ℕ). done ++ l) (sym (f (drop (i + 1) text)) ∙ ap F (sym (drop_more text i 0 lt)))
    ∙ h

-- the number of bytes before the first line feed
abbrev line_len : List ℕ → ℕ
line_len text = position_or_len (λ x. x == new_line) text

-- to take one byte more of a list that has one byte more in front
one_more : (n c : ℕ) (xs : List ℕ) → take (1 + n) (c ∷ xs) ∷ lines_in (drop (1 + n + 1) (c ∷ xs))
    ≡ (c ∷ take n xs) ∷ lines_in (drop (n + 1) xs)
one_more n c xs =
    let e : 1 + n ≡ suc n = omega arith in
    ap (λ m. take m (c ∷ xs) ∷ lines_in (drop (m + 1) (c ∷ xs))) e ∙ simp unary_clauses refl

-- the byte c before the text cs: if it is a line feed (b), it ends an empty first line; otherwise it is put onto cs's
-- first line
line_step : (c : ℕ) (cs : List ℕ) (b : Bool)
    → onto_first c (lines_in cs) ≡ take (1 + line_len cs) (c ∷ cs) ∷ lines_in (drop (1 + line_len cs + 1) (c ∷ cs))
    → (if b then [] ∷ lines_in cs else onto_first c (lines_in cs))
    ≡ take (if not b then 1 + line_len cs else 0) (c ∷ cs)
    ∷ lines_in (drop ((if not b then 1 + line_len cs else 0) + 1) (c ∷ cs))
line_step c cs true more = refl
line_step c cs false more = more

-- by induction over the text: its lines are what comes before its first line feed, and the lines after that
first_line : (c : ℕ) (cs : List ℕ) → lines_in (c ∷ cs)
    ≡ take (line_len (c ∷ cs)) (c ∷ cs) ∷ lines_in (drop (line_len (c ∷ cs) + 1) (c ∷ cs))
first_line c [] = line_step c [] (c == new_line) refl
first_line c (d ∷ ds) =
    line_step c (d ∷ ds) (c == new_line)
    (ap (onto_first c) (first_line d ds) ∙ sym (one_more (line_len (d ∷ ds)) c (d ∷ ds)))

-- the first line of a text is what comes before its first line feed
pub line_split : (text : List ℕ) (len rest : ℕ) → 0 < length text → len ≡ line_len text
    → rest ≡ min (len + 1) (length text) → lines_in text ≡ take len text ∷ lines_in (drop rest text)
line_split [] len rest some is end = absurd (omega (arith, some))
line_split (c ∷ cs) len rest some is end =
    first_line c cs
    ∙ ap (λ n. take n (c ∷ cs) ∷ lines_in (drop (n + 1) (c ∷ cs))) (sym is)
    ∙ ap (λ (t : List ℕ). take len (c ∷ cs) ∷ lines_in t)
    (sym (drop_min (len + 1) (c ∷ cs)) ∙ ap (λ n. drop n (c ∷ cs)) (sym end))

-- a line more of what an engine is sent
pub given_more : (first side : Colour) (moment : ℕ) (text line rest all done : List ℕ)
    → lines_in text ≡ line ∷ lines_in rest
    → done ++ note_text (engine_name first) moment (Gives side text) ≡ all
    → (done ++ log_line moment (byte ">") (engine_name first side) line)
    ++ note_text (engine_name first) moment (Gives side rest) ≡ all
given_more first side moment text line rest all done is h =
    let sent : List (List ℕ) → List ℕ = λ ls. flat_map (log_line moment (byte ">") (engine_name first side)) ls in
    append_assoc done (log_line moment (byte ">") (engine_name first side) line) (sent (lines_in rest))
    ∙ ap (λ ls. done ++ sent ls) (sym is) ∙ h

-- nothing is left of what an engine is sent
pub given_all : (first side : Colour) (moment : ℕ) (rest all done : List ℕ) → (length rest == 0) ≡ true
    → done ++ note_text (engine_name first) moment (Gives side rest) ≡ all → done ≡ all
given_all first side moment [] all done none h = sym (append-nil done) ∙ h
given_all first side moment (x ∷ xs) all done none h = absurd (grind (arith, nat_tests))

-- ---- notes

-- the log of one note more: the lines of the note, at the moment that the notes before it reached, come last
log_more : (first : Colour) (moment : ℕ) (notes : List Note) (n : Note)
    → log_from first moment (notes ++ n ∷ [])
    ≡ log_from first moment notes ++ note_text (engine_name first) (moment_from moment notes) n
log_more first moment [] n = append-nil (note_text (engine_name first) moment n)
log_more first moment (x ∷ notes) n =
    ap (λ (l : List ℕ). note_text (engine_name first) moment x ++ l) (log_more first (moment_after moment x) notes n)
    ∙ sym (append_assoc (note_text (engine_name first) moment x) (log_from first (moment_after moment x) notes)
    (note_text (engine_name first) (moment_from (moment_after moment x) notes) n))

-- the moment after one note more
moment_more : (moment : ℕ) (notes : List Note) (n : Note) → moment_from moment (notes ++ n ∷ [])
    ≡ moment_after (moment_from moment notes) n
moment_more moment [] n = refl
moment_more moment (x ∷ notes) n = moment_more (moment_after moment x) notes n

-- no note was logged yet
pub log_begun : (first side : Colour) (l l' : LogSeen) (moment : ℕ) → side ≡ first → l' ≡ l → moment ≡ 0
    → IsLog first l side l' moment []
log_begun first side l l' moment sided same begun = record {
  sided = sided;
  written = subst (λ (v : LogSeen). Logged l v []) (sym same) (logs_none l);
  reached = begun;
}

-- a note more was logged
pub noted : {E : Type 0} (seen : E → OutputState) (l l' : Log E) (n : Note) → LogsNote seen l l' n
    → WasNoted (noted_by seen l) (noted_by seen l') (n ∷ [])
noted seen l l' n (logged, same, after) = record {
  extends = λ before notes was.
      let first = first_of_text before in
      let from = log_of_text before in
      let now = log_seen (seen l.output) l.broken in
      let after_it = log_seen (seen l'.output) l'.broken in
      let text : List ℕ = note_text (engine_name l.first) l.moment n in
      record {
        sided = same ∙ was.sided;
        written = subst (λ (t : List ℕ). Logged from after_it t)
            (ap (λ (c : Colour). log_from first 0 notes ++ note_text (engine_name c) l.moment n) was.sided
            ∙ ap (λ (m : ℕ). log_from first 0 notes ++ note_text (engine_name first) m n) was.reached
            ∙ sym (log_more first 0 notes n))
            (logged_more from now after_it (log_from first 0 notes) text was.written logged);
        reached = after ∙ ap (λ (m : ℕ). moment_after m n) was.reached ∙ sym (moment_more 0 notes n);
      };
}

-- ---- a whole match

-- the text that `text_of_log` makes of a log's state gives back the side of the first engine
first_again : (first : Colour) (l : LogSeen) → first_of_text (text_of_log first l) ≡ first
first_again White l = refl
first_again Black l = refl

-- and it gives back the log's state
seen_again : (first : Colour) (known : Option (List ℕ)) (failures unflushed : ℕ) (broken : Bool)
    → log_of_text (text_of_log first (record {
      output = record { known_bytes = known; failure_count = failures; unflushed = unflushed };
      broken = broken;
    }))
    ≡ record {
      output = record { known_bytes = known; failure_count = failures; unflushed = unflushed };
      broken = broken;
    }
seen_again first None failures unflushed false = refl
seen_again first (Some bytes) failures unflushed false = refl
seen_again first _ failures unflushed _ = refl

-- a log that a match was given as its witness, from its beginning on, has the log of the notes
pub notes_logged : (first side side' : Colour) (from l l' : LogSeen) (moment moment' : ℕ) (notes : List Note)
    → IsLog first from side l moment []
    → WasNoted (λ before more. IsLog (first_of_text before) (log_of_text before) side l moment more)
    (λ before more. IsLog (first_of_text before) (log_of_text before) side' l' moment' more) notes
    → Logged from l' (log_from first 0 notes)
notes_logged first side side' from l l' moment moment' notes begun noted =
    let text : List ℕ = text_of_log first from in
    let first_is : first_of_text text ≡ first = first_again first from in
    let from_is : log_of_text text ≡ from =
    seen_again first from.output.known_bytes from.output.failure_count from.output.unflushed from.broken in
    let log : IsLog first from side' l' moment' notes =
    subst (λ (v : LogSeen). IsLog first v side' l' moment' notes) from_is
    (subst (λ (c : Colour). IsLog c (log_of_text text) side' l' moment' notes) first_is
    (noted.extends text []
    (subst (λ (c : Colour). IsLog c (log_of_text text) side l moment []) (sym first_is)
    (subst (λ (v : LogSeen). IsLog first v side l moment []) (sym from_is) begun)))) in log.written
