-- The steps of a block that was sent, of a write that failed and of an event lead from one match to another (`Leads`),
-- in which the blocks of the effect are due; `leads_on` joins such steps. By `leads_out`, steps that lead to the end of
-- a match are those of acts that are the rest of it.
use Rattle.std.proofs.Common.{◌≡◌, ℕ, ◌<◌, Bool, true, false, ◌||◌, List, [], ◌∷◌, ◌++◌, length, refl, ap, sym, ◌∙◌, subst, append_assoc, append-nil, arith, lt-ltb, if◌then◌else◌, nat_lt}
use Rattle.std.specs.Cmp.Derive.{both_true}
use Rattle.chess_base.specs.{declared.man.Colour.Colour, declared.man.Colour.TheVariants.White, declared.man.Colour.TheVariants.Black, Men.other, Men.same_colour, Options.list_if}
use Rattle.chess_base.proofs.shared.Men.{same_colour-true}
use Rattle.chess_match.specs.Acts.{Act, Block, Sends, SendFails, Happens, IsMatchFrom, awaits_line, is_limited, is_over, block_of, blocks_from, waits_until}
use Rattle.chess_match.specs.{shared.Parts.blocks_after, laws.Laws.broken_blocks, laws.Laws.is_broken, Lines.SentLine, Lines.bytes_of, Notes.Happened, Notes.Gives, Reasons.is_write_fault_of, Rules.Rules, declared.reason.Reason.Reason}
use Rattle.chess_match.specs.Effects.{Match, Effect, Opening, Over, effect}
use Rattle.chess_match.specs.Events.{Event, Line, Opened, Silent, OutputEnds, FailsToRead, FailsToWrite}
use Rattle.chess_match.specs.Table.{Step, Does, Notes, watched}
use Rattle.chess_match.proofs.{shared.LineCases.silence_cases, shared.Reasons.unwritten}
use Rattle.chess_match.specs.ties.Driving.{Leads, giving, is_of_output, is_silence, looks_of, steps_of}

-- no write failed
abbrev pub none : Colour → Bool
none S = false

-- a write to the side `S` failed, if the flag says so
abbrev pub only : Bool → Colour → Colour → Bool
only failed S X = if failed then same_colour S X else false

-- ---- put together

or_more : (a b c : Bool) → (a || (b || c)) ≡ ((a || b) || c)
or_more true b c = refl
or_more false b c = refl

-- steps that lead from `m` to `m'` and steps that lead from there to `m''` lead, one after the other, from `m` to
-- `m''`; a write failed to a side if it failed in either
pub leads_on : (r : Rules) (m m' m'' : Match) (due due' due'' : List Block) (K J : List Step) (f g : Colour → Bool)
    → (is_over m'.phase ≡ true → m''.phase ≡ m'.phase) → Leads r m due K m' due' f → Leads r m' due' J m'' due'' g
    → Leads r m due (K ++ J) m'' due'' (λ S. f S || g S)
leads_on r m m' m'' due due' due'' K J f g stays p q H final reason h e =
    let b = q H final reason h e in
    let a = p b.0 final reason b.1 (λ over. sym (stays over) ∙ e (ap is_over (stays over) ∙ over)) in (
      a.0,
      a.1,
      a.2 ∙ ap (λ (l : List Step). K ++ l) b.2 ∙ sym (append_assoc K J (watched r reason m'' H)),
      λ S. a.3 S ∙ ap (λ (x : Bool). f S || x) (b.3 S) ∙ or_more (f S) (g S) (is_broken H S),
    )

-- steps lead somewhere with the failed writes `g`, if they do with `f`, and both say the same of each side
pub leads_as : (r : Rules) (m m' : Match) (due due' : List Block) (K : List Step) (f g : Colour → Bool)
    → ((S : Colour) → f S ≡ g S) → Leads r m due K m' due' f → Leads r m due K m' due' g
leads_as r m m' due due' K f g e p H final reason h ends =
    let a = p H final reason h ends in
    (a.0, a.1, a.2, λ S. a.3 S ∙ ap (λ (x : Bool). x || is_broken H S) (e S))

-- ---- blocks

-- the side of a block that could not be sent is one to which a write failed
pub more_broken : (b : Block) (H : List Act) (S : Colour)
    → is_broken (SendFails b ∷ H) S ≡ (same_colour b.to S || is_broken H S)
more_broken b H S = at (same_colour b.to S)
  where
    at : (x : Bool) → nat_lt 0 (length (list_if x (b.lines ∷ []) ++ broken_blocks S H)) ≡ (x || is_broken H S)
    at true = lt-ltb 0 (length (b.lines ∷ broken_blocks S H)) (omega arith)
    at false = refl

-- lines were sent
pub leads_sent : (r : Rules) (m : Match) (S : Colour) (lines : List SentLine) (due : List Block)
    → Leads r m (block_of S lines ++ due) (giving false S lines) m due none
leads_sent r m S [] due H final reason g e = (H, g, refl, λ X. refl)
leads_sent r m S (l ∷ ls) due H final reason g e =
    (Sends (record { to = S; lines = l ∷ ls }) ∷ H, (refl, g), refl, λ X. refl)

-- the steps of a write that failed, by whether the match was over before and whether the failure ended it
failed_steps : (r : Rules) (m : Match) (b : Block) (H : List Act) (reason : Reason) (over ended : Bool)
    → is_over m.phase ≡ over → is_write_fault_of reason b.to ≡ ended
    → watched r reason m (SendFails b ∷ H) ≡ Notes (Gives b.to (bytes_of b.lines)) ∷ Does (SendFails b)
    ∷ (list_if ended (Notes (Happened (FailsToWrite b.to)) ∷ [])
    ++ watched r reason (if over then m else (effect r m (FailsToWrite b.to)).after) H)
failed_steps r m b H reason over ended e f =
    ap (λ (x : Bool). Notes (Gives b.to (bytes_of b.lines)) ∷ Does (SendFails b)
    ∷ (list_if x (Notes (Happened (FailsToWrite b.to)) ∷ [])
    ++ watched r reason (if is_over m.phase then m else (effect r m (FailsToWrite b.to)).after) H)) f
    ∙ ap (λ (y : Bool). Notes (Gives b.to (bytes_of b.lines)) ∷ Does (SendFails b)
    ∷ (list_if ended (Notes (Happened (FailsToWrite b.to)) ∷ [])
    ++ watched r reason (if y then m else (effect r m (FailsToWrite b.to)).after) H)) e

-- a write of end lines failed: the match was over and stays as it is, and what else is due is still sent
pub leads_broken : (r : Rules) (m : Match) (S : Colour) (lines : List SentLine) (due : List Block)
    → is_over m.phase ≡ true → 0 < length lines
    → ((reason : Reason) → m.phase ≡ Over reason → is_write_fault_of reason S ≡ false)
    → Leads r m (block_of S lines ++ due) (giving true S lines) m due (same_colour S)
leads_broken r m S [] due over some apart H final reason g e = absurd (omega (arith, some))
leads_broken r m S (l ∷ ls) due over some apart H final reason g e =
    let b : Block = record { to = S; lines = l ∷ ls } in (
      SendFails b ∷ H,
      (
        refl,
        subst (λ (x : Bool). let n : Match × List Block = if x then (m, due) else (
          (effect r m (FailsToWrite S)).after,
          blocks_from White (effect r m (FailsToWrite S)).to,
        ) in IsMatchFrom r n.0 n.1 H final) (sym over) g,
      ),
      failed_steps r m b H reason true false over (apart reason (e over)),
      λ X. more_broken b H X,
    )

-- end lines were sent, or a write of them failed
pub leads_farewell : (r : Rules) (m : Match) (S : Colour) (lines : List SentLine) (due : List Block) (failed : Bool)
    → is_over m.phase ≡ true → (failed ≡ true → 0 < length lines)
    → ((reason : Reason) → m.phase ≡ Over reason → is_write_fault_of reason S ≡ false)
    → Leads r m (block_of S lines ++ due) (giving failed S lines) m due (only failed S)
leads_farewell r m S lines due true over some apart = leads_broken r m S lines due over (some refl) apart
leads_farewell r m S lines due false over some apart = leads_sent r m S lines due

-- a write failed, and that ended the match
pub leads_failed : (r : Rules) (m : Match) (S : Colour) (lines : List SentLine) (due : List Block)
    → is_over m.phase ≡ false → 0 < length lines
    → Leads r m (block_of S lines ++ due) (giving true S lines ++ steps_of (FailsToWrite S))
    (effect r m (FailsToWrite S)).after (blocks_from White (effect r m (FailsToWrite S)).to) (same_colour S)
leads_failed r m S [] due on some H final reason g e = absurd (omega (arith, some))
leads_failed r m S (l ∷ ls) due on some H final reason g e =
    let b : Block = record { to = S; lines = l ∷ ls } in (
      SendFails b ∷ H,
      (
        refl,
        subst (λ (x : Bool). let n : Match × List Block = if x then (m, due) else (
          (effect r m (FailsToWrite S)).after,
          blocks_from White (effect r m (FailsToWrite S)).to,
        ) in IsMatchFrom r n.0 n.1 H final) (sym on) g,
      ),
      failed_steps r m b H reason false true on (unwritten S reason (e refl)),
      λ X. more_broken b H X,
    )

-- ---- events

-- after a silence, too, White's block comes first, if there is one
silence_first : (r : Rules) (m : Match) (S c : Colour) (moment : ℕ)
    → blocks_after S (effect r m (Silent c moment)) ≡ blocks_from White (effect r m (Silent c moment)).to
silence_first r m S c moment =
    silence_cases r c moment m (λ e. blocks_after S e ≡ blocks_from White e.to)
    (record { stops = λ reason w. refl; goes_on = λ since. refl })

-- a line, a silence, an end or a failed read of the engine of S: its steps lead to the match after its effect, in which
-- the blocks of that effect are due
pub leads_event : (r : Rules) (m : Match) (S : Colour) (e : Event) → is_of_output S e ≡ true
    → awaits_line m.phase S ≡ true → (is_silence e ≡ true → is_limited r.patience m.phase ≡ true)
    → Leads r m [] (looks_of (waits_until r m.phase m) e ++ steps_of e) (effect r m e).after
    (blocks_after S (effect r m e)) none
leads_event r m S (Line c text moment) is awaits limited H final reason g ends =
    let same : c ≡ S = same_colour-true c S is in (
      Happens (Line c text moment) ∷ H,
      (
        subst (λ (x : Colour). awaits_line m.phase x ≡ true) (sym same) awaits,
        subst (λ (x : Colour). IsMatchFrom r (effect r m (Line c text moment)).after
            (blocks_after x (effect r m (Line c text moment))) H final) (sym same) g,
      ),
      refl,
      λ X. refl,
    )
leads_event r m S (Silent c moment) is awaits limited H final reason g ends =
    let same : c ≡ S = same_colour-true c S is in (
      Happens (Silent c moment) ∷ H,
      (
        both_true (subst (λ (x : Colour). awaits_line m.phase x ≡ true) (sym same) awaits) (limited refl),
        subst (λ (due : List Block). IsMatchFrom r (effect r m (Silent c moment)).after due H final)
            (silence_first r m S c moment) g,
      ),
      refl,
      λ X. refl,
    )
leads_event r m S (OutputEnds c) is awaits limited H final reason g ends =
    let same : c ≡ S = same_colour-true c S is in (
      Happens (OutputEnds c) ∷ H,
      (subst (λ (x : Colour). awaits_line m.phase x ≡ true) (sym same) awaits, g),
      refl,
      λ X. refl,
    )
leads_event r m S (FailsToRead c) is awaits limited H final reason g ends =
    let same : c ≡ S = same_colour-true c S is in (
      Happens (FailsToRead c) ∷ H,
      (subst (λ (x : Colour). awaits_line m.phase x ≡ true) (sym same) awaits, g),
      refl,
      λ X. refl,
    )
leads_event r m S e is awaits limited H final reason g ends = absurd cc

-- a turn was opened
pub leads_opened : (r : Rules) (m : Match) (S : Colour) (moment : ℕ) → m.phase ≡ Opening S
    → Leads r m [] (steps_of (Opened S moment)) (effect r m (Opened S moment)).after [] none
leads_opened r m S moment opening H final reason g ends = (Happens (Opened S moment) ∷ H, (opening, g), refl, λ X. refl)

-- ---- which blocks

-- if one side is sent nothing, what is due is the block of the other
pub one_block : (to : Colour → List SentLine) (S : Colour) → to S ≡ []
    → blocks_from White to ≡ block_of (other S) (to (other S)) ++ []
one_block to White e = ap (λ (l : List SentLine). block_of White l ++ block_of Black (to Black)) e
    ∙ sym (append-nil (block_of Black (to Black)))
one_block to Black e = ap (λ (l : List SentLine). block_of White (to White) ++ block_of Black l) e

-- the side to which a write failed is sent nothing
pub unsent : (r : Rules) (m : Match) (S : Colour) → (effect r m (FailsToWrite S)).to S ≡ []
unsent r m White = refl
unsent r m Black = refl

-- which side's block comes first after a line of S: White's if the match is over then, otherwise that of S
pub over_first : (S : Colour) (t : Effect) (b : Bool) → is_over t.after.phase ≡ b
    → blocks_after S t ≡ blocks_from (if b then White else S) t.to
over_first S t b e = ap (λ (x : Bool). blocks_from (if x then White else S) t.to) e

-- ---- the end

-- steps that lead from `m` to the end of the match are those of acts that are the rest of a match from `m` and `due`
pub leads_out : (r : Rules) (m m' : Match) (due : List Block) (K : List Step) (f : Colour → Bool) (reason : Reason)
    → Leads r m due K m' [] f → m'.phase ≡ Over reason
    → (H : List Act) × IsMatchFrom r m due H m' × (watched r reason m H ≡ K) × ((S : Colour) → is_broken H S ≡ f S)
leads_out r m m' due K f reason p over =
    let a = p [] m' reason (ap is_over over, refl) (λ h. over) in
    (a.0, a.1, a.2 ∙ append-nil K, λ S. a.3 S ∙ or_none (f S))
  where
    or_none : (b : Bool) → (b || false) ≡ b
    or_none true = refl
    or_none false = refl
