-- A scheme for laws of what an engine S was sent by one kind of line (`f` takes it out of a line): an invariant `Told`
-- of the match and of all that S was sent or is due. If each event keeps it (`Tells`), what follows of it holds at each
-- moment (`told_at`). PingLaw, GoLaw, SetupLaw, PassingLaw, PrefixLaw, AnswerLaw and LinesDue use it.
use Rattle.std.proofs.Common.{◌≡◌, ◌∙◌, ℕ, true, false, List, [], ◌∷◌, ◌++◌, sym, ap, subst, append-nil, append_assoc, Option, if◌then◌else◌, flat_map}
use Rattle.std.proofs.lemmas.Grind.{flat_map-append}
use Rattle.chess_base.specs.{declared.man.Colour.Colour, declared.man.Colour.TheVariants.White, Men.same_colour, Options.list_if}
use Rattle.cecp_engine.specs.EngineLines.{LineKind}
use Rattle.chess_match.specs.Acts.{Act, Block, IsMatch, IsMatchFrom, awaits_line, blocks_from, is_over}
use Rattle.chess_match.specs.Effects.{Effect, Match, Opening, BeforeMove, beginning, effect, ends, line_row}
use Rattle.chess_match.specs.{Events.Line, Lines.SentLine, Rules.Rules, declared.reason.Reason.Reason, laws.Laws.line_kind, laws.Laws.lines_given, laws.Laws.match_after}
use Rattle.chess_match.proofs.shared.MatchCases.{on_when_read}
use Rattle.chess_match_laws.proofs.{Givings.both_due, Givings.lines_due, Points.Kept, Points.by_points, Silences.by_silence}

-- each event keeps `Told m X`, where `X` is all that S was sent by such lines, or is due, up to the match `m`
pub record Tells {A : Type 0} (f : SentLine → List A) (r : Rules) (S : Colour) (Told : Match → List A → Type 0) : Type 0
  where
    pub line : (C : Colour) (kind : LineKind) (moment : ℕ) (m : Match) (X : List A) → awaits_line m.phase C ≡ true
        → Kept r m → Told m X
        → Told (line_row r m.phase kind moment m).after (X ++ flat_map f ((line_row r m.phase kind moment m).to S))
    -- a block that is due may be lost
    pub stops : (m : Match) (reason : Reason) (X Y : List A) → is_over m.phase ≡ false → Told m (X ++ Y)
        → Told (ends r reason m).after (X ++ flat_map f ((ends r reason m).to S))
    pub waits : (m : Match) (since : Option ℕ) (X : List A) → Told m X → Told (record m { since = since }) X
    pub opened : (m : Match) (C : Colour) (k : ℕ) (X : List A) → m.phase ≡ Opening C → Told m X
        → Told (record m { phase = BeforeMove C k }) X

module _ {A : Type 0} (f : SentLine → List A) (r : Rules) (S : Colour) (Told : Match → List A → Type 0)
    (k : Tells f r S Told) where
  -- a block more was sent
  one_sent : (m : Match) (b : Block) (due : List Block) (X : List A)
      → Told m (X ++ flat_map f (lines_due S (b ∷ due)))
      → Told m ((X ++ flat_map f (list_if (same_colour b.to S) b.lines)) ++ flat_map f (lines_due S due))
  one_sent m b due X h =
      subst (Told m)
      (ap (λ xs. X ++ xs) (flat_map-append f (list_if (same_colour b.to S) b.lines) (lines_due S due))
      ∙ sym (append_assoc X (flat_map f (list_if (same_colour b.to S) b.lines)) (flat_map f (lines_due S due)))) h

  -- the lines `ls` were sent first, and then those given later
  given_more : (C : List A → Type 0) (X : List A) (ls given : List SentLine)
      → C ((X ++ flat_map f ls) ++ flat_map f given) → C (X ++ flat_map f (ls ++ given))
  given_more C X ls given c = subst C (append_assoc X (flat_map f ls) (flat_map f given)
      ∙ ap (λ (xs : List A). X ++ xs) (sym (flat_map-append f ls given))) c

  -- what an effect sends is due
  dues : (first : Colour) (e : Effect) (X : List A) → Told e.after (X ++ flat_map f (e.to S))
      → Told e.after (X ++ flat_map f (lines_due S (blocks_from first e.to)))
  dues first e X h =
      subst (λ (ls : List SentLine). Told e.after (X ++ flat_map f ls)) (sym (both_due first S e.to)) h

  -- what follows (`C`) at a moment from `Told`, where some lines may still be due, follows of all that was sent in the
  -- acts `H` up to then (`K` are the later ones)
  pub told_at : (C : Match → List A → Type 0) (H K : List Act) (final : Match)
      → ((m : Match) (due : List Block) → IsMatchFrom r m due K final → (X : List A)
      → Told m (X ++ flat_map f (lines_due S due)) → C m X)
      → IsMatch r (H ++ K) final → Told beginning.after (flat_map f (beginning.to S))
      → C (match_after r beginning.after H) (flat_map f (lines_given S H))
  told_at C H K final rest g start =
      by_points r (λ m due H n. (X : List A) → Told m (X ++ flat_map f (lines_due S due))
      → C n (X ++ flat_map f (lines_given S H))) (record {
        sends = λ m n b due H p X t. given_more (C n) X (list_if (same_colour b.to S) b.lines) (lines_given S H)
            (p _ (one_sent m b due X t));
        fails = λ m n b due H on q only same p X t.
            given_more (C n) X (list_if (same_colour b.to S) b.lines) (lines_given S H)
            (p _ (dues White (ends r _ m) _ (k.stops m _ _ (flat_map f (lines_due S due)) on (one_sent m b due X t))));
        fails_late = λ m n b due H o only same p X t.
            given_more (C n) X (list_if (same_colour b.to S) b.lines) (lines_given S H) (p _ (one_sent m b due X t));
        reads = λ m n c t x H aw q stays p X h. p X
            (dues (if is_over (effect r m (Line c t x)).after.phase then White else c) (effect r m (Line c t x)) X
            (k.line c (line_kind t) x m X aw q (subst (Told m) (append-nil X) h)));
        opens = λ m n c x H o q p X h. p X (k.opened m c x (X ++ []) o h);
        silent = λ m n c x H aw limited q stays p X h. by_silence r m n c x H
            (λ m due. (X : List A) → Told m (X ++ flat_map f (lines_due S due)) → C n (X ++ flat_map f (lines_given S H)))
            (λ reason w only same p. p X (dues White (ends r reason m) X
            (k.stops m reason X [] (on_when_read m.phase c aw) h)))
            (λ since p. p X (k.waits m since (X ++ []) h)) stays p;
        output_ends = λ m n c H aw q only same p X h. p X (dues White (ends r _ m) X
            (k.stops m _ X [] (on_when_read m.phase c aw) h));
        read_fails = λ m n c H aw q only same p X h. p X (dues White (ends r _ m) X
            (k.stops m _ X [] (on_when_read m.phase c aw) h));
      }) H K final (λ m due q g X h. subst (C m) (sym (append-nil X)) (rest m due g X h)) g []
      (dues White beginning [] start)
