-- A token keeps the invariant (LineReads of LinesRead: the first fault from here on is the line's), or its fault is the
-- line's first. Each goal is one lemma of LinesRead, by what the token is.
use Rattle.std.proofs.{Common.◌≡◌, Common.None, Common.sym, Common.◌∙◌, Common.rules, lemmas.Result.err_from_is_err_and}
use Rattle.pgn_tokens.specs.Seen.{token_seen}
use Rattle.chess_pgn.proofs.LinesRead.{begun, ended, unread, goes_on, passed_over, moved_on, faulty, not_opened, faulty_inside, went_inside}
use Rattle.chess_pgn.proofs.variations.+read_line.Goals as goal

pub loop-token-init : goal.loop-token-init
loop-token-init g t c =
    begun c.args.tags c.args.depth c.args.text.now c.args.start.now (g.B.Board.position c.set.new.self) c.args.at
    c.requires c.set.ensures.position

-- the line's end
pub returns-in_default : goal.returns-in_default
returns-in_default g t c =
    ended c.args.tags c.args.depth c.args.text.now c.args.start.now c.args.at c.loop-token.before
    (g.B.Board.position c.loop-token.board) c.loop-token.offset c.loop-token.invariant
    (rw c.in_default.is at c.in_ok-token.ensures)

-- what can't be read
pub returns-in_err-token : goal.returns-in_err-token
returns-in_err-token g t c =
    let p = err_from_is_err_and c.from_residual.result c.from_residual.ensures.1 in
    rw (p.1, p.2) (unread c.args.tags c.args.depth c.args.text.now c.args.start.now c.args.at c.loop-token.before
    (g.B.Board.position c.loop-token.board) c.loop-token.offset c.in_err-token.field-0.0 c.loop-token.invariant
    c.in_err-token.ensures.0 c.in_err-token.ensures.1)

-- a variation that can't begin
pub returns-in_err-first : goal.returns-in_err-first
returns-in_err-first g t c =
    let next = rw c.in-Some.is at c.in_ok-token.ensures in
    let p = err_from_is_err_and c.from_residual-in_err-first.result c.from_residual-in_err-first.ensures.1 in
    rw (p.1, p.2) (not_opened c.args.tags c.args.depth c.args.text.now c.args.start.now c.args.at c.loop-token.before
    (g.B.Board.position c.loop-token.board) c.loop-token.offset c.in-Some.token_end (token_seen c.in-Some.token)
    c.loop-token.invariant next.2 next.0 c.in_err-first.field-0.0
    (sym c.is_variation.ensures ∙ c.if-is_variation.true) c.in_err-first.ensures)

-- a variation with a fault, and one without
pub returns-in_err-read_line : goal.returns-in_err-read_line
returns-in_err-read_line g t c =
    let next = rw c.in-Some.is at c.in_ok-token.ensures in
    let p = err_from_is_err_and c.from_residual-in_err-read_line.result c.from_residual-in_err-read_line.ensures.1 in
    rw (p.1, p.2) (faulty_inside c.args.tags c.args.depth c.args.text.now c.args.start.now c.args.at c.loop-token.before
    (g.B.Board.position c.loop-token.board) c.loop-token.offset c.in-Some.token_end (token_seen c.in-Some.token)
    c.loop-token.invariant next.2 next.0 c.in_ok-first.first c.in_ok-first.inner_depth c.in_err-read_line.field-0.0
    (sym c.is_variation.ensures ∙ c.if-is_variation.true) c.in_ok-first.ensures c.in_err-read_line.ensures)

pub loop-token-preserved-in_ok-read_line : goal.loop-token-preserved-in_ok-read_line
loop-token-preserved-in_ok-read_line g t c =
    let next = rw c.in-Some.is at c.in_ok-token.ensures in
    went_inside c.args.tags c.args.depth c.args.text.now c.args.start.now c.args.at c.loop-token.before
    (g.B.Board.position c.loop-token.board) c.loop-token.offset c.in-Some.token_end (token_seen c.in-Some.token)
    c.loop-token.invariant next.2 next.0 c.in_ok-first.first c.in_ok-first.inner_depth
    (g.B.Board.position c.set-then-is_variation.new.self) (sym c.is_variation.ensures ∙ c.if-is_variation.true)
    c.in_ok-first.ensures c.in_ok-read_line.ensures (c.set-then-is_variation.ensures.position ∙ c.position-here.ensures.value)

-- any other token
pub returns-in_err-left : goal.returns-in_err-left
returns-in_err-left g t c =
    let next = rw c.in-Some.is at c.in_ok-token.ensures in
    let p = err_from_is_err_and c.from_residual-in_err-left.result c.from_residual-in_err-left.ensures.1 in
    rw (p.1, p.2) (faulty c.args.tags c.args.depth c.args.text.now c.args.start.now c.args.at c.loop-token.before
    (g.B.Board.position c.loop-token.board) c.loop-token.offset c.in-Some.token_end (token_seen c.in-Some.token)
    c.loop-token.invariant next.2 next.0 c.in_err-left.field-0.0 (g.B.Board.position c.play_token.new.board)
    (sym c.is_variation.ensures ∙ c.if-is_variation.false)
    (goes_on c.args.text.now c.loop-token.offset c.in-Some.token) c.in_err-left.ensures)

pub loop-token-preserved-in-Some-2 : goal.loop-token-preserved-in-Some-2
loop-token-preserved-in-Some-2 g t c =
    let next = rw c.in-Some.is at c.in_ok-token.ensures in
    moved_on c.args.tags c.args.depth c.args.text.now c.args.start.now c.args.at c.loop-token.before
    (g.B.Board.position c.loop-token.board) c.loop-token.offset c.in-Some.token_end (token_seen c.in-Some.token)
    c.loop-token.invariant next.2 next.0 c.in-Some-2.left (g.B.Board.position c.play_token.new.board)
    (sym c.is_variation.ensures ∙ c.if-is_variation.false)
    (goes_on c.args.text.now c.loop-token.offset c.in-Some.token) (rw c.in-Some-2.is at c.in_ok-left.ensures)

pub loop-token-preserved : goal.loop-token-preserved
loop-token-preserved g t c =
    let next = rw c.in-Some.is at c.in_ok-token.ensures in
    let none : c.in_ok-left.field-0 ≡ None = search rules in
    passed_over c.args.tags c.args.depth c.args.text.now c.args.start.now c.args.at c.loop-token.before
    (g.B.Board.position c.loop-token.board) c.loop-token.offset c.in-Some.token_end (token_seen c.in-Some.token)
    c.loop-token.invariant next.2 next.0 (g.B.Board.position c.play_token.new.board)
    (sym c.is_variation.ensures ∙ c.if-is_variation.false)
    (goes_on c.args.text.now c.loop-token.offset c.in-Some.token) (rw none at c.in_ok-left.ensures)
