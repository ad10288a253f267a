-- The first statement of a list, by what it is made of.
use mathlib.Core.Path.{transport}
use Rattle.std.proofs.Common.{◌≡◌, sym, ap, ◌∙◌, ℕ, true, List}
use Rattle.access_blocks.specs.declared.body.Statement.{Statement, out-Statement}
use Rattle.access_blocks.specs.declared.body.Statement.TheOpen.{Statement-F}
use Rattle.access_blocks.specs.declared.body.Statement.TheFolds.{fold_out-Statement, map-Statement}
use Rattle.access_blocks.specs.Source.{Frame}
use Rattle.body_code.specs.Completing.{Leaving, leaving_step, leaving_of}
use Rattle.body_code.specs.StatementCode.{Piece, piece_step, piece_of}
use Rattle.body_code.specs.Checking.{Standing, Checking, checked_step, checked}
use Rattle.body_code.specs.Checking as checking
use Rattle.code_meaning.specs.Running.{is_plain}
use Rattle.code_meaning.specs.Placed.{Placing, placing_step, placing_of}
use Rattle.code_meaning.specs.Frames.{Coded, scope_in, Level}
use Rattle.code_meaning.proofs.Laying.{Head}
use Rattle.code_meaning.proofs.Placing.{plain_same}

module _ (c : Coded) where
  abbrev pub pieces : Statement-F Statement → Statement-F Piece
  pieces = map-Statement Statement Piece (piece_of (scope_in c))

  abbrev pub checks : Statement-F Statement → Statement-F Checking
  checks = map-Statement Statement Checking (checked c.around)

  abbrev pub leavings : Statement-F Statement → Statement-F Leaving
  leavings = map-Statement Statement Leaving leaving_of

  abbrev pub placings : Statement-F Statement → Statement-F Placing
  placings = map-Statement Statement Placing placing_of

  pub piece_reads : (x : Statement) (y : Statement-F Statement) → out-Statement x ≡ y → piece_of (scope_in c) x ≡ piece_step (scope_in c) (pieces y)
  piece_reads x y is = fold_out-Statement Piece (piece_step (scope_in c)) x ∙ ap (λ (z : Statement-F Statement). piece_step (scope_in c) (pieces z)) is

  pub check_reads : (x : Statement) (y : Statement-F Statement) → out-Statement x ≡ y → checked c.around x ≡ checked_step c.around (checks y)
  check_reads x y is = fold_out-Statement Checking (checked_step c.around) x ∙ ap (λ (z : Statement-F Statement). checked_step c.around (checks z)) is

  pub leave_reads : (x : Statement) (y : Statement-F Statement) → out-Statement x ≡ y → leaving_of x ≡ leaving_step (leavings y)
  leave_reads x y is = fold_out-Statement Leaving leaving_step x ∙ ap (λ (z : Statement-F Statement). leaving_step (leavings z)) is

  pub placing_reads : (x : Statement) (y : Statement-F Statement) → out-Statement x ≡ y → placing_of x ≡ placing_step (placings y)
  placing_reads x y is = fold_out-Statement Placing placing_step x ∙ ap (λ (z : Statement-F Statement). placing_step (placings z)) is

  -- A statement that is run whole where it stands is plain.
  pub plain_reads : (x : Statement) (y : Statement-F Statement) → out-Statement x ≡ y → (placing_step (placings y)).plain ≡ true → is_plain x ≡ true
  plain_reads x y is plain = sym (plain_same x) ∙ ap (λ (a : Placing). a.plain) (placing_reads x y is) ∙ plain

  pub head_reads : {frames : List Frame} {level : Level} {at left : ℕ} {st : Standing} (x : Statement) (y : Statement-F Statement) → out-Statement x ≡ y
      → Head c frames (piece_of (scope_in c) x) (checked c.around x) (leaving_of x) (placing_of x).placed level at st left
      → Head c frames (piece_step (scope_in c) (pieces y)) (checked_step c.around (checks y)) (leaving_step (leavings y)) (placing_step (placings y)).placed level at st left
  head_reads {frames} {level} {at} {left} {st} x y is h =
      let p = piece_reads x y is in
      let k = check_reads x y is in
      let l = leave_reads x y is in
      let a = placing_reads x y is in
      let same : Head c frames (piece_of (scope_in c) x) (checked c.around x) (leaving_of x) (placing_of x).placed level at st left
      ≡ Head c frames (piece_step (scope_in c) (pieces y)) (checked_step c.around (checks y)) (leaving_step (leavings y)) (placing_step (placings y)).placed level at st left =
      λ i. Head c frames (p i) (k i) (l i) (a i).placed level at st left in
      transport same h

  -- the same for what an opened statement is made of
  abbrev pub opened_check : Checking → Checking
  opened_check check exits st = checking.opened st (check exits (checking.outside st))

  pub opened_reads : {frames : List Frame} {level : Level} {at left : ℕ} {st : Standing} (x : Statement) (y : Statement-F Statement) → out-Statement x ≡ y
      → Head c frames (piece_of (scope_in c) x) (opened_check (checked c.around x)) (leaving_of x) (placing_of x).opened level at st left
      → Head c frames (piece_step (scope_in c) (pieces y)) (opened_check (checked_step c.around (checks y))) (leaving_step (leavings y)) (placing_step (placings y)).opened level at st left
  opened_reads {frames} {level} {at} {left} {st} x y is h =
      let p = piece_reads x y is in
      let k = check_reads x y is in
      let l = leave_reads x y is in
      let a = placing_reads x y is in
      let same : Head c frames (piece_of (scope_in c) x) (opened_check (checked c.around x)) (leaving_of x) (placing_of x).opened level at st left
      ≡ Head c frames (piece_step (scope_in c) (pieces y)) (opened_check (checked_step c.around (checks y))) (leaving_step (leavings y)) (placing_step (placings y)).opened level at st left =
      λ i. Head c frames (p i) (opened_check (k i)) (l i) (a i).opened level at st left in
      transport same h
