-- At each moment a side was sent `draw` at most as often as the other side has offered a draw. By induction over the
-- acts, counting also what is due: a line makes at most one `draw` due, and only if it is an offer of the other side
-- (`line_draws`), and an end makes none due.
use Rattle.std.proofs.Common.{◌≡◌, ◌∙◌, ◌⊎◌, ℕ, suc, ◌+◌, ◌-◌, ◌≤◌, Bool, true, false, not, ◌&&◌, List, [], ◌∷◌, ◌++◌, length, length-append, refl, sym, ap, subst, inl, inr, arith, Option, flat_map, codes, if◌then◌else◌}
use Rattle.std.proofs.{lemmas.Bool.and_parts, lemmas.Bool.or_cases, lemmas.Grind.flat_map-append}
use Rattle.chess_base.specs.{declared.man.Colour.Colour, declared.man.Colour.TheVariants.White, declared.man.Colour.TheVariants.Black, Men.other, Men.same_colour, Options.list_if}
use Rattle.cecp_engine.specs.{EngineLines.LineKind, Items.takes}
use Rattle.chess_match.specs.Acts.{Act, Block, awaits_line, blocks_from, is_over}
use Rattle.chess_match.specs.Effects.{Effect, Match, Phase, Handshake, Setup, Opening, BeforeMove, AfterMove, Over, beginning, effect, ends, handshake_lines, line_row, moved, opening}
use Rattle.chess_match.specs.{Events.Line, Lines.SentLine, Lines.Says, Lines.setup_lines, Rules.Rules, declared.reason.MatchFault.TheVariants.Ended, declared.reason.MatchFault.TheVariants.Read, declared.reason.MatchFault.TheVariants.Write, declared.reason.Reason.Reason, declared.reason.Reason.TheVariants.Claimed, declared.reason.Reason.TheVariants.Decided, declared.reason.Reason.TheVariants.Faulted, laws.Laws.line_kind, laws.Laws.lines_given, laws.Laws.lines_read}
use Rattle.chess_match.proofs.shared.LineCases.{in_turn, line_cases, offering, said_by}
use Rattle.chess_match.proofs.shared.MatchCases.{both_not}
use Rattle.chess_match_laws.specs.{OfActs.AtEachMoment, Streams.is_move}
use Rattle.chess_match_laws.specs.Rows.{DrawsAreOffered, draw_text, is_offer, offer_of}
use Rattle.chess_match_laws.proofs.{Givings.both_due, Givings.lines_due, Points.by_points, Silences.by_silence}
use Rattle.chess_match_laws.proofs.OfferLaw.{Fresh, Open, line_fresh, line_open}
use Rattle.chess_match_laws.proofs.PassingLaw.{answered, end_none, if_none, opening_none, setup_none}

abbrev one_if : Bool → ℕ
one_if true = 1
one_if false = 0

-- how many lines `draw` these are
abbrev draws : List SentLine → ℕ
draws ls = length (flat_map draw_text ls)

-- how many of these lines offer a draw
abbrev offers_in : List (Option (List ℕ)) → ℕ
offers_in lines = length (flat_map offer_of lines)

-- ---- counting

-- lines in two parts have as many `draw` as both parts
split : (ls more : List SentLine) → draws (ls ++ more) ≡ draws ls + draws more
split ls more =
    ap (λ (texts : List (List ℕ)). length texts) (flat_map-append draw_text ls more)
    ∙ length-append (flat_map draw_text ls) (flat_map draw_text more)

zero_more : (n : ℕ) → n ≡ 0 + n
zero_more n = omega arith

one_more : (n : ℕ) → suc n ≡ 1 + n
one_more n = omega arith

-- with one line more there is one offer more, if the line is one and of the side that counts (`b`)
offers_more : (b : Bool) (t : Option (List ℕ)) (lines : List (Option (List ℕ)))
    → offers_in (list_if b (t ∷ []) ++ lines) ≡ one_if (b && is_offer (line_kind t)) + offers_in lines
offers_more false t lines = zero_more (offers_in lines)
offers_more true t lines = at (is_offer (line_kind t))
  where
    at : (q : Bool) → length (list_if q (t ∷ []) ++ flat_map offer_of lines) ≡ one_if q + offers_in lines
    at true = one_more (offers_in lines)
    at false = zero_more (offers_in lines)

at_zero : (k j d : ℕ) → d ≡ 0 → k + 0 ≤ j → k + d ≤ j
at_zero k j d e h = omega (arith, e, h)

at_end : (k j d : ℕ) → k + d ≤ j → k + 0 ≤ j + 0
at_end k j d h = omega (arith, h)

-- a line more is read, by which `a` lines or fewer are sent, and which makes `a` offers
le_more : (k d s j a : ℕ) → d ≡ s → s ≤ a → k + 0 ≤ j → k + d ≤ j + a
le_more k d s j a e h n = omega (arith, e, h, n)

le_less : (g j a f all : ℕ) → all ≡ a + f → g ≤ j + a + f → g ≤ j + all
le_less g j a f all e h = omega (arith, e, h)

le_split : (k a g all j f : ℕ) → all ≡ a + g → k + a + g ≤ j + f → k + all ≤ j + f
le_split k a g all j f e h = omega (arith, e, h)

-- a block with the lines `ls` is sent: if the bound holds of what is due and given after it, it holds with the block
step : (ls due given : List SentLine) (j k f : ℕ) → ((i : ℕ) → i + draws due ≤ j → i + draws given ≤ j + f)
    → k + draws (ls ++ due) ≤ j → k + draws (ls ++ given) ≤ j + f
step ls due given j k f p h =
    let x : draws (ls ++ due) ≡ draws ls + draws due = split ls due in
    let y : draws (ls ++ given) ≡ draws ls + draws given = split ls given in
    let q : k + draws ls + draws given ≤ j + f = p (k + draws ls) (omega (arith, x, h)) in omega (arith, y, q)

-- what an end sends has no `draw`
end_due : (r : Rules) (m : Match) (reason : Reason) (S : Colour)
    → draws (lines_due S (blocks_from White (ends r reason m).to)) ≡ 0
end_due r m reason S =
    ap (λ (ls : List SentLine). draws ls) (both_due White S (ends r reason m).to)
    ∙ ap (λ (texts : List (List ℕ)). length texts) (end_none r m reason S)

-- what else was due may be lost in a failure, and the end sends no `draw`: so fewer are sent
fewer : (ls due ended : List SentLine) (j k : ℕ) → draws ended ≡ 0 → k + draws (ls ++ due) ≤ j
    → k + draws ls + draws ended ≤ j
fewer ls due ended j k none h =
    let x : draws (ls ++ due) ≡ draws ls + draws due = split ls due in omega (arith, x, none, h)

-- ---- one line

one_is : 1 ≤ 1
one_is = omega arith

none_is : 0 ≤ 1
none_is = omega arith

module _ (r : Rules) (S : Colour) where
  -- what a line sends to S has no `draw`; or it has one, by which the other side's offer is opened
  abbrev OneAtMost : Match → Effect → Type 0
  OneAtMost m e = (flat_map draw_text (e.to S) ≡ [])
      ⊎ ((draws (e.to S) ≤ 1) × (is_over e.after.phase ≡ false) × ((m.seat (other S)).offers ≡ false)
      × ((e.after.seat (other S)).offers ≡ true))

  -- a match in a turn is not over
  turn_on : (p : Phase) → in_turn p ≡ true → is_over p ≡ false
  turn_on (Handshake c) on = refl
  turn_on (Setup c) on = refl
  turn_on (Opening c) on = refl
  turn_on (BeforeMove c opened) on = refl
  turn_on (AfterMove c) on = refl
  turn_on (Over reason) on = absurd (cc)

  if_taken : (b : Bool) → draws (list_if b (Says (codes "draw") ∷ [])) ≤ 1
  if_taken true = one_is
  if_taken false = none_is

  -- an offer makes at most one `draw` due
  offers_once : (c X : Colour) (m : Match) → in_turn m.phase ≡ true → (m.seat c).offers ≡ false
      → (flat_map draw_text ((offering c m).to X) ≡ [])
      ⊎ ((draws ((offering c m).to X) ≤ 1) × (is_over (offering c m).after.phase ≡ false)
      × ((m.seat (other X)).offers ≡ false) × (((offering c m).after.seat (other X)).offers ≡ true))
  offers_once White White m on own = inl refl
  offers_once Black Black m on own = inl refl
  offers_once White Black m on own =
      inr (if_taken (takes (codes "draw") (m.seat Black).items), turn_on m.phase on, own, refl)
  offers_once Black White m on own =
      inr (if_taken (takes (codes "draw") (m.seat White).items), turn_on m.phase on, own, refl)

  -- any line of C
  line_once : (C : Colour) (kind : LineKind) (moment : ℕ) (m : Match) → awaits_line m.phase C ≡ true
      → OneAtMost m (line_row r m.phase kind moment m)
  line_once C kind moment m aw =
      line_cases r C kind moment m (OneAtMost m) aw (λ since.
      let n : Match = record m { since = since } in record {
        handshake_stops = λ p reason k most w. inl (answered (same_colour C S) _ _
            (end_none r (record (said_by C kind n) { count = k }) reason S));
        handshake_counts = λ p d few. inl (answered (same_colour C S) _ [] refl);
        handshake_next = λ p s d.
            inl (answered (same_colour C S) _ _ (if_none (same_colour Black S) handshake_lines refl));
        handshake_last = λ p s d. inl (answered (same_colour C S) _ _
            (if_none (same_colour White S) (setup_lines r White) (setup_none r White)));
        setup_counts = λ p pong few. inl refl;
        setup_next = λ p s pong. inl (if_none (same_colour Black S) (setup_lines r Black) (setup_none r Black));
        setup_last = λ p s pong v d. inl
            (if_none (same_colour r.start.side S) (opening r n r.start.side) (opening_none r n r.start.side));
        setup_draws = λ p claim v d. inl (end_none r n (Claimed claim) S);
        setup_decides = λ p v e. inl (end_none r n (Decided v) S);
        stops = λ done reason w. inl (end_none r n reason S);
        counts = λ on none few. inl refl;
        offers = λ on none own. offers_once C S n on own;
        plays = λ text move opened is p read room timely v d. inl (if_none (same_colour C S) _ refl);
        draws = λ text move opened claim is p read room timely v d.
            inl (end_none r (moved C move (moment - opened) n) (Claimed claim) S);
        decides = λ text move opened v is p read room timely e.
            inl (end_none r (moved C move (moment - opened) n) (Decided v) S);
        passes = λ p none. inl (if_none (same_colour (other C) S) (opening r n (other C)) (opening_none r n (other C)));
      })

  -- so a `draw` is sent by an offer of the other side
  line_draws : (C : Colour) (kind : LineKind) (moment : ℕ) (m : Match) → awaits_line m.phase C ≡ true → Fresh m
      → draws ((line_row r m.phase kind moment m).to S) ≤ one_if (same_colour C (other S) && is_offer kind)
  line_draws C kind moment m aw fresh = at (line_once C kind moment m aw)
    where
      e : Effect
      e = line_row r m.phase kind moment m

      any : (b : Bool) (n : ℕ) → n ≡ 0 → n ≤ one_if b
      any true n none = omega (arith, none)
      any false n none = omega (arith, none)

      offered : Open (other S) C kind m ≡ true → (m.seat (other S)).offers ≡ false
          → (same_colour C (other S) && is_offer kind) ≡ true
      offered opens before = cases (or_cases _ _ opens)
        where
          cases : (((m.seat (other S)).offers && not (same_colour C (other (other S)) && is_move kind)) ≡ true)
              ⊎ ((same_colour C (other S) && is_offer kind) ≡ true)
              → (same_colour C (other S) && is_offer kind) ≡ true
          cases (inl both) = both_not (m.seat (other S)).offers before (and_parts _ _ both).0
          cases (inr is) = is

      at : OneAtMost m e → draws (e.to S) ≤ one_if (same_colour C (other S) && is_offer kind)
      at (inl none) = any (same_colour C (other S) && is_offer kind) (draws (e.to S))
          (ap (λ (texts : List (List ℕ)). length texts) none)
      at (inr (one, on, before, still)) =
          subst (λ (b : Bool). draws (e.to S) ≤ one_if b)
          (sym (offered (line_open r (other S) C kind moment m fresh aw on still) before)) one

-- ---- along the acts

begun_due : (S : Colour) → draws (lines_due S (blocks_from White beginning.to)) ≡ 0
begun_due S =
    ap (λ (ls : List SentLine). draws ls) (both_due White S beginning.to)
    ∙ ap (λ (texts : List (List ℕ)). length texts) (if_none (same_colour White S) handshake_lines refl)

none_due : 0 + 0 ≤ 0
none_due = omega arith

pub not_early : {A : Type 0} → false ≡ true → A
not_early e = absurd (cc)

pub draws_are_offered : AtEachMoment DrawsAreOffered
draws_are_offered r H K final g S =
    let Q : Match → List Block → List Act → Type 0 =
    λ m due H. Fresh m → (j k : ℕ) → k + draws (lines_due S due) ≤ j
    → k + draws (lines_given S H) ≤ j + offers_in (lines_read (other S) H) in
    let h : 0 + draws (lines_given S H) ≤ 0 + offers_in (lines_read (other S) H) =
    by_points r (λ m due H n. Q m due H) (record {
      sends = λ m n b due H p fresh j k h. step (list_if (same_colour b.to S) b.lines) (lines_due S due)
          (lines_given S H) j k (offers_in (lines_read (other S) H)) (λ i. p fresh j i) h;
      fails = λ m n b due H on q only same p fresh j k h.
          let l : draws (list_if (same_colour b.to S) b.lines ++ lines_given S H)
          ≡ draws (list_if (same_colour b.to S) b.lines) + draws (lines_given S H) =
          split (list_if (same_colour b.to S) b.lines) (lines_given S H) in
          let rest = p (λ early. not_early early) j (k + draws (list_if (same_colour b.to S) b.lines))
          (fewer (list_if (same_colour b.to S) b.lines) (lines_due S due)
          (lines_due S (blocks_from White (ends r (Faulted b.to Write) m).to)) j k
          (end_due r m (Faulted b.to Write) S) h) in
          le_split k (draws (list_if (same_colour b.to S) b.lines)) (draws (lines_given S H)) _ j
          (offers_in (lines_read (other S) H)) l rest;
      fails_late = λ m n b due H o only same p fresh j k h. step (list_if (same_colour b.to S) b.lines)
          (lines_due S due) (lines_given S H) j k (offers_in (lines_read (other S) H)) (λ i. p fresh j i) h;
      reads = λ m n c t x H aw q stays p fresh j k h.
          let b : Bool = same_colour c (other S) && is_offer (line_kind t) in
          let sent = line_draws r S c (line_kind t) x m aw fresh in
          let due : draws (lines_due S (blocks_from (if is_over (effect r m (Line c t x)).after.phase then White else c)
          (effect r m (Line c t x)).to)) ≡ draws ((effect r m (Line c t x)).to S) =
          ap (λ (ls : List SentLine). draws ls) (both_due
          (if is_over (effect r m (Line c t x)).after.phase then White else c) S (effect r m (Line c t x)).to) in
          let more = offers_more (same_colour c (other S)) t (lines_read (other S) H) in
          let rest = p (line_fresh r c (line_kind t) x m aw fresh) (j + one_if b) k
          (le_more k _ _ j (one_if b) due sent h) in
          le_less (k + draws (lines_given S H)) j (one_if b) (offers_in (lines_read (other S) H)) _ more rest;
      opens = λ m n c x H o q p fresh j k h. p (λ early. not_early early) j k h;
      silent = λ m n c x H aw limited q stays p fresh j k h. by_silence r m n c x H (λ m due. Q m due H)
          (λ reason w only same p. p (λ early. not_early early) j k
          (at_zero k j _ (end_due r m reason S) h))
          (λ since p. p fresh j k h) stays p;
      output_ends = λ m n c H aw q only same p fresh j k h. p (λ early. not_early early) j k
          (at_zero k j _ (end_due r m (Faulted c Ended) S) h);
      read_fails = λ m n c H aw q only same p fresh j k h. p (λ early. not_early early) j k
          (at_zero k j _ (end_due r m (Faulted c Read) S) h);
    }) H K final (λ m due q g fresh j k h. at_end k j _ h) g (λ early O. refl) 0 0
    (at_zero 0 0 _ (begun_due S) none_due) in omega (arith, h)
