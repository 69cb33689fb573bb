-- For the loops of read.rt and words.rt, which read a game token by token. Their invariants say: what was read so far,
-- and then read on from here, is what is read of the whole game (Reads and, with the next token known to be no move to
-- play, ReadsWords; ReadsNormal while tags are read; GoesOn while words are played). A lemma for each step keeps this;
-- and a step that ends at a fault leaves nothing declared (bare_at_fault).
use Rattle.std.proofs.Common.{◌≡◌, ℕ, ◌-◌, ◌≤◌, ◌<◌, Bool, true, false, cond, List, ◌∷◌, arith, length, get_or, take, drop, Some, None, is_some, Result, Ok, Err, refl, sym, ap, subst, ◌∙◌, Option, IsNone, OnErr, codes}
use Rattle.chess_base.specs.{declared.man.Variant.Variant, declared.man.Variant.TheVariants.Normal, declared.setup.Setup.Setup, Initial.initial_setup, Initial.initial_setup_of}
use Rattle.chess_game.specs.Game.{State, Seen, from_start, with_state as left_at}
use Rattle.chess_pgn.specs.{declared.read.PgnEnd.PgnEnd, declared.read.PgnFault.PgnFault, declared.progress.Progress.Progress, laws.WordKinds.word_kind, GameRead.tagged_variant, GameRead.pgn_read}
use Rattle.pgn_tokens.specs.{LastTags.may_precede_tags, LastTags.named_tag, LastTags.tag_section, Seen.SkipsTo}
use Rattle.pgn_tokens.specs.Tokens.{Token, Skip, Word, after_brace, token_at, begins_line, tokens_from}
use Rattle.byte_devices.specs.Bytes.{after_byte_order_mark}
use Rattle.chess_pgn.specs.laws.TokenByToken.{SoFar, Step, On, Stop, word_step, step, read_rest_with, game_of, nothing_read, tokens_read}
use Rattle.pgn_tokens.specs.shared.Places.{IsWithin}
use Rattle.chess_pgn.specs.ties.GameSteps.{so_far, begun, StopsAt, IsReadOn, ReadsAlike, IsTaken, GoesOn, step_seen}
use Rattle.chess_pgn.proofs.{GamesByTags.reads_alike, SkippedTokens.skips_alike, SkippedTokens.skips_say}
use Rattle.pgn_tokens.proofs.shared.Tokens.{token_within, NextToken, next_token}
use Rattle.chess_pgn.proofs.StepKinds.{StepIs, passes, stays, plays, starts, stops, finishes, step_is}
use Rattle.chess_pgn.proofs.TagScans.{variant_or, variant_said, variant_from, variants_are}

-- ---- nothing is declared before the game's end, and nothing after a fault

-- after a step with which reading continues, no result is declared
abbrev Undeclared : Step → Type 0
Undeclared (On g) = g.state.declared ≡ None
Undeclared (Stop read) = OnErr read.answer (read.state.declared ≡ None)

-- no step but a game's end declares a result
keeps : (limit total : ℕ) (g : SoFar) (left : ℕ) (t : Token) → IsWithin left t → g.state.declared ≡ None
    → Undeclared (step true limit total g left t)
keeps limit total g left t within h = by_kind (step_is true limit total g left t within)
  where
    by_kind : {s : Step} → StepIs g left total s → Undeclared s
    by_kind passes = h
    by_kind (stays m b o) = h
    by_kind (plays m) = h
    by_kind (starts p) = refl
    by_kind (stops kind offset low high) = h
    by_kind (finishes o len some high) = tt

-- a step that ended at a fault left nothing declared, whatever is answered then
pub bare_at_fault : (limit total : ℕ) (g : SoFar) (left : ℕ) (t : Token) (s : State) (fault : PgnFault)
    (r : Result (Option PgnEnd) PgnFault) → IsWithin left t → g.state.declared ≡ None
    → step_seen s (Err fault) ≡ step true limit total g left t
    → OnErr r (IsNone s.declared)
bare_at_fault limit total g left t s fault r within h is =
    on_error r (ap is_some (subst Undeclared (sym is) (keeps limit total g left t within h)))
  where
    on_error : {P : Type 0} (r : Result (Option PgnEnd) PgnFault) → P → OnErr r P
    on_error (Ok end) p = tt
    on_error (Err f) p = p

-- ---- the loop of `read_pgn`

-- at the offset `here` with the game and the progress read so far: reading on from there gives what is read from `from`
-- on (`whole`), and nothing is declared yet
pub record Reads (limit : ℕ) (text : List ℕ) (from : ℕ) (game : Seen) (progress : Progress) (here : ℕ) : Type 0 where
  pub forward : from ≤ here
  pub offset : here ≤ length text
  pub undeclared : game.state.declared ≡ None
  pub same_limit : game.limit ≡ limit
  pub whole : game_of true limit (length text) (so_far game.state progress) (tokens_from text here)
      ≡ pgn_read true limit text
      from

-- after `begin_game` this holds
pub read_from : (limit : ℕ) (game : Seen) (p : Progress) (text : List ℕ) (from begin here : ℕ)
    → IsReadOn limit text begin game p here → game.limit ≡ limit → begin ≡ after_byte_order_mark text from
    → from ≤ begin → Reads limit text from game p here
read_from limit game p text from begin here r same is onward = record {
  forward = (let before = r.forward in omega (arith, before, onward));
  offset = r.offset;
  undeclared = r.undeclared;
  same_limit = same;
  whole = r.whole ∙ ap (λ n. tokens_read true limit (length text) (tokens_from text n)) is
      ∙ sym (reads_alike true limit text from);
}

-- what was read of a game before its first token
nothing_met : Progress
nothing_met = record { is_met = false; is_begun = false; termination = None }

-- a game that begins anew in the variant that its tags name, with nothing read: reading on from the first token is
-- reading the game
pub first : (old game : Seen) (start : Setup) (v : Variant) (p : Progress) (text : List ℕ) (here : ℕ)
    → game ≡ left_at old (from_start start) → start ≡ initial_setup_of v → (there : ℕ)
    → v ≡ tagged_variant (tag_section (tokens_from text there))
    → tagged_variant (tag_section (tokens_from text there)) ≡ tagged_variant (tag_section (tokens_from text here))
    → p ≡ record { is_met = false; is_begun = false; termination = None } → here ≤ length text
    → IsReadOn old.limit text here game p here
unfolding nothing_met
first old game start v p text here restarted initial there variant same none h =
    let state : game.state ≡ from_start (initial_setup_of v) = ap (λ g. g.state) restarted ∙ ap from_start initial in
    record {
      forward = omega arith;
      offset = h;
      undeclared = ap (λ s. s.declared) state;
      whole =
          ap (λ q. game_of true old.limit (length text) (so_far game.state q) (tokens_from text here)) none
          ∙ ap (λ s. game_of true old.limit (length text) (so_far s nothing_met) (tokens_from text here)) state
          ∙ ap (λ u. game_of true old.limit (length text) (nothing_read u) (tokens_from text here)) (variant ∙ same);
    }

-- ---- the variant that tags name

-- with `v` the variant named by the tags from `from` up to `here`: the tags from `here` on, or else `v`, give the
-- variant that all of the game's tags name
pub record Says (text : List ℕ) (from : ℕ) (v : Variant) (here : ℕ) : Type 0 where
  pub offset : here ≤ length text
  pub whole : variant_from v (tokens_from text here) ≡ tagged_variant (tag_section (tokens_from text from))

-- before any tag it is normal chess
pub says_begun : (text : List ℕ) (from : ℕ) → from ≤ length text → Says text from Normal from
says_begun text from h = record { offset = h; whole = variants_are (tokens_from text from) }

-- a token more, after which the variant is what its tag `Variant` names, if it is one
pub said_more : (text : List ℕ) (from : ℕ) (v u : Variant) (here onward : ℕ) (t : Token) → Says text from v here
    → tokens_from text here ≡ (length text - here, t) ∷ tokens_from text onward → onward ≤ length text
    → true ≡ may_precede_tags t → u ≡ variant_said v t → Says text from u onward
said_more text from v u here onward t r is h may said = record {
  offset = h;
  whole = ap (λ w. variant_from w (tokens_from text onward)) said
      ∙ ap (λ b. cond b (variant_from (variant_said v t) (tokens_from text onward)) v) may
      ∙ ap (variant_from v) (sym is) ∙ r.whole;
}

-- as Reads, and the next token is no move that the game plays (`left`), since `play_words` has played those
pub record ReadsWords (limit : ℕ) (text : List ℕ) (from : ℕ) (game : Seen) (progress : Progress) (here : ℕ)
    : Type 0 where
  pub forward : from ≤ here
  pub offset : here ≤ length text
  pub undeclared : game.state.declared ≡ None
  pub same_limit : game.limit ≡ limit
  pub whole : game_of true limit (length text) (so_far game.state progress) (tokens_from text here)
      ≡ pgn_read true limit text
      from
  pub left : StopsAt game (tokens_from text here)

-- at a token: what its step gives, read on from there, is what is read of the whole game
stepped : (limit : ℕ) (text : List ℕ) (from : ℕ) (game : Seen) (p : Progress) (here : ℕ) (t : Token)
    (ts : List (ℕ × Token)) (after : Step) → ReadsWords limit text from game p here
    → tokens_from text here ≡ (length text - here, t) ∷ ts
    → after ≡ step true game.limit (length text) (so_far game.state p)
    (length text - here) t → read_rest_with after (λ g. game_of true limit (length text) g ts)
    ≡ pgn_read true limit text from
stepped limit text from game p here t ts after r is step_is =
    ap (λ s. read_rest_with s (λ g. game_of true limit (length text) g ts))
    (step_is ∙ ap (λ n. step true n (length text) (so_far game.state p) (length text - here) t) r.same_limit)
    ∙ ap (game_of true limit (length text) (so_far game.state p)) (sym is)
    ∙ r.whole

-- a token with which reading continues: Reads holds after it
pub more : (limit : ℕ) (text : List ℕ) (from : ℕ) (game new : Seen) (p q : Progress) (here onward : ℕ) (t : Token)
    → ReadsWords limit text from game p here
    → tokens_from text here ≡ (length text - here, t) ∷ tokens_from text onward
    → here < onward → onward ≤ length text → new.limit ≡ game.limit
    → On (so_far new.state q) ≡ step true game.limit (length text) (so_far game.state p) (length text - here) t
    → Reads limit text from new q onward
more limit text from game new p q here onward t r is later h same step_is = record {
  forward = (let before = r.forward in omega (arith, before, later));
  offset = h;
  undeclared = subst Undeclared (sym step_is)
      (keeps game.limit (length text) (so_far game.state p) (length text - here) t
      (token_within text here t (tokens_from text onward) r.offset is) r.undeclared);
  same_limit = same ∙ r.same_limit;
  whole = stepped limit text from game p here t (tokens_from text onward) (On (so_far new.state q)) r is step_is;
}

-- ---- the tags of a game of normal chess

-- as Reads, for the tags of a game that so far is of normal chess: reading on is the same as reading from `from` in
-- normal chess, and no tag so far names another variant (`says`)
pub record ReadsNormal (limit : ℕ) (text : List ℕ) (from : ℕ) (game : Seen) (progress : Progress) (here : ℕ)
    : Type 0 where
  pub forward : from ≤ here
  pub says : Says text from Normal here
  pub undeclared : game.state.declared ≡ None
  pub same_limit : game.limit ≡ limit
  pub whole : game_of true limit (length text) (so_far game.state progress) (tokens_from text here)
      ≡ game_of true limit (length text) (nothing_read Normal) (tokens_from text from)

-- it holds before the first tag
pub first_normal : (old game : Seen) (start : Setup) (p : Progress) (text : List ℕ) (here : ℕ)
    → game ≡ left_at old (from_start start) → start ≡ initial_setup
    → p ≡ record { is_met = false; is_begun = false; termination = None } → here ≤ length text
    → ReadsNormal old.limit text here game p here
unfolding nothing_met initial_setup initial_setup_of
first_normal old game start p text here restarted initial none h =
    let state : game.state ≡ from_start (initial_setup_of Normal) = ap (λ g. g.state) restarted ∙ ap from_start initial
    in
    record {
      forward = omega arith;
      says = says_begun text here h;
      undeclared = ap (λ s. s.declared) state;
      same_limit = ap (λ g. g.limit) restarted;
      whole =
          ap (λ q. game_of true old.limit (length text) (so_far game.state q) (tokens_from text here)) none
          ∙ ap (λ s. game_of true old.limit (length text) (so_far s nothing_met) (tokens_from text here)) state;
    }

-- the tags from here on name the variant that all of the game's name
pub same_variant : (limit : ℕ) (text : List ℕ) (from : ℕ) (game : Seen) (p : Progress) (here : ℕ)
    → ReadsNormal limit text from game p here
    → tagged_variant (tag_section (tokens_from text here)) ≡ tagged_variant (tag_section (tokens_from text from))
same_variant limit text from game p here r = sym (variants_are (tokens_from text here)) ∙ r.says.whole

-- it holds after one more tag that names no other variant, or another token among the tags
pub more_normal : (limit : ℕ) (text : List ℕ) (from : ℕ) (game new : Seen) (p q : Progress) (here onward : ℕ)
    (t : Token) (found : Option (List ℕ × ℕ)) → ReadsNormal limit text from game p here
    → tokens_from text here ≡ (length text - here, t) ∷ tokens_from text onward → here < onward
    → onward ≤ length text → true ≡ may_precede_tags t → found ≡ named_tag (codes "Variant") t
    → Normal ≡ variant_or Normal found → new.limit ≡ game.limit
    → On (so_far new.state q) ≡ step true game.limit (length text) (so_far game.state p) (length text - here) t
    → ReadsNormal limit text from new q onward
more_normal limit text from game new p q here onward t found r is later h may named said same step_is = record {
  forward = (let before = r.forward in omega (arith, before, later));
  says = said_more text from Normal Normal here onward t r.says is h may (said ∙ ap (variant_or Normal) named);
  undeclared = subst Undeclared (sym step_is)
      (keeps game.limit (length text) (so_far game.state p) (length text - here) t
      (token_within text here t (tokens_from text onward) r.says.offset is) r.undeclared);
  same_limit = same ∙ r.same_limit;
  whole =
      ap (λ s. read_rest_with s (λ g. game_of true limit (length text) g (tokens_from text onward)))
      (step_is ∙ ap (λ n. step true n (length text) (so_far game.state p) (length text - here) t) r.same_limit)
      ∙ ap (game_of true limit (length text) (so_far game.state p)) (sym is) ∙ r.whole;
}

-- and after what is skipped then
pub normal_on : (limit : ℕ) (text : List ℕ) (from : ℕ) (game : Seen) (p : Progress) (here there : ℕ)
    → ReadsNormal limit text from game p here → SkipsTo text here there → here ≤ there → there ≤ length text
    → ReadsNormal limit text from game p there
normal_on limit text from game p here there r skips onward within = record {
  forward = (let before = r.forward in omega (arith, before, onward));
  says = record { offset = within; whole = sym (skips_say text here there skips Normal) ∙ r.says.whole };
  undeclared = r.undeclared;
  same_limit = r.same_limit;
  whole = sym (skips_alike text here there skips limit (so_far game.state p)) ∙ r.whole;
}

-- ---- comments and white space, which change nothing (ReadsAlike: the same is read from before as from after them)

-- a comment with its `}` is a token that is skipped; 123 is `{`
comment_token : (begins : Bool) (c : ℕ) (rest onward : List ℕ) → c ≡ 123 → after_brace rest ≡ Some onward
    → (Skip, onward) ≡ token_at begins c rest
unfolding token_at
comment_token true c rest onward brace closed = rw (brace, closed) refl
comment_token false c rest onward brace closed = rw (brace, closed) refl

-- so it is the next token at its offset; `xs` is the text from there on
pub commented : (text : List ℕ) (at : ℕ) (xs onward : List ℕ) → at ≤ length text
    → xs ≡ take (length text - at) (drop at text) → 1 ≤ length xs → get_or xs 0 0 ≡ 123
    → after_brace (take (length xs - 1) (drop 1 xs)) ≡ Some onward → NextToken text at Skip onward
commented text at xs onward h is some brace closed =
    next_token text at (begins_line text at) xs h refl is some Skip onward
    (comment_token (begins_line text at) (get_or xs 0 0) (take (length xs - 1) (drop 1 xs)) onward brace closed)

-- a skipped token changes nothing
pub skipped_alike : (text : List ℕ) (at onward : ℕ)
    → tokens_from text at ≡ (length text - at, Skip) ∷ tokens_from text onward → ReadsAlike text at onward
skipped_alike text at onward is = λ limit g. ap (game_of true limit (length text) g) is

-- nor do several, one after another
pub alike_on : (text : List ℕ) (a b c d : ℕ) → ReadsAlike text a b → ReadsAlike text b c → ReadsAlike text c d
    → ReadsAlike text a d
alike_on text a b c d first second third = λ limit g. first limit g ∙ second limit g ∙ third limit g

-- so Reads holds also after them
pub alike : (limit : ℕ) (text : List ℕ) (from : ℕ) (game : Seen) (p : Progress) (here there : ℕ)
    → Reads limit text from game p here → ReadsAlike text here there → here ≤ there → there ≤ length text
    → Reads limit text from game p there
alike limit text from game p here there r same onward within = record {
  forward = (let before = r.forward in omega (arith, before, onward));
  offset = within;
  undeclared = r.undeclared;
  same_limit = r.same_limit;
  whole = sym (same limit (so_far game.state p)) ∙ r.whole;
}

-- ---- the loop of `play_words` over numbers and moves

-- a word that was taken is applied to the game as its step says, and a number or move has begun the game
was_taken : (taken : Bool) (old new : Seen) (step_of : SoFar → ℕ → Step) → taken ≡ true
    → IsTaken taken old new step_of → (p : Progress) (offset : ℕ) → On (so_far new.state (begun p))
    ≡ step_of (so_far old.state p) offset
was_taken true old new step_of is h = h
was_taken false old new step_of is h = cc

-- a round: one more word is taken, and what comes after it is skipped
pub one_more : (text : List ℕ) (from : ℕ) (old game new : Seen) (before p q : Progress) (here onward there : ℕ)
    (word : List ℕ) (taken : Bool) → GoesOn text from old before here game p
    → tokens_from text here ≡ (length text - here, Word word) ∷ tokens_from text onward → here < onward
    → new.limit ≡ game.limit → taken ≡ true
    → IsTaken taken game new (λ g offset. word_step true game.limit g offset word (word_kind word)) → q ≡ begun p
    → ReadsAlike text onward there → onward ≤ there → there ≤ length text → GoesOn text from old before there new q
one_more text from old game new before p q here onward there word taken g is later same yes_is by begins alike after
    within =
    let step_is : On (so_far new.state q)
    ≡ step true game.limit (length text) (so_far game.state p) (length text - here) (Word word) =
    ap (λ r. On (so_far new.state r)) begins
    ∙ was_taken taken game new (λ g offset. word_step true game.limit g offset word (word_kind word)) yes_is by p
    (length text - (length text - here)) in
    record {
      forward = (let first = g.forward in omega (arith, first, later, after));
      offset = within;
      undeclared = subst Undeclared (sym step_is)
          (keeps game.limit (length text) (so_far game.state p) (length text - here) (Word word)
          (token_within text here (Word word) (tokens_from text onward) g.offset is) g.undeclared);
      same_limit = same ∙ g.same_limit;
      whole = sym (alike old.limit (so_far new.state q))
          ∙ ap (λ s. read_rest_with s (λ h. game_of true old.limit (length text) h (tokens_from text onward)))
          (step_is ∙ ap (λ n. step true n (length text) (so_far game.state p) (length text - here)
          (Word word)) g.same_limit)
          ∙ ap (game_of true old.limit (length text) (so_far game.state p)) (sym is)
          ∙ g.whole;
    }

-- after the loop: reading on from where it ended, with its moves played, is reading on from before; and the token there
-- was not taken
pub further : (limit : ℕ) (text : List ℕ) (from : ℕ) (game new : Seen) (p q : Progress) (here there : ℕ)
    → Reads limit text from game p here → GoesOn text here game p there new q → StopsAt new (tokens_from text there)
    → ReadsWords limit text from new q there
further limit text from game new p q here there r g is_left = record {
  forward = (let before = r.forward in let after = g.forward in omega (arith, before, after));
  offset = g.offset;
  undeclared = g.undeclared;
  same_limit = g.same_limit ∙ r.same_limit;
  whole = ap (λ n. game_of true n (length text) (so_far new.state q) (tokens_from text there)) (sym r.same_limit)
      ∙ g.whole ∙ ap (λ n. game_of true n (length text) (so_far game.state p) (tokens_from text here)) r.same_limit
      ∙ r.whole;
  left = is_left;
}
