-- Each simple statement goes.
use Rattle.std.proofs.Common.{ℕ, List, refl}
use Rattle.sdg_base.specs.declared.operator.BinOp.TheVariants as bin
use Rattle.java_tree.specs.declared.tree.AssignOp.{AssignOp}
use Rattle.java_tree.specs.declared.tree.AssignOp.TheVariants as assign
use Rattle.java_tree.specs.declared.tree.Simple.{Simple}
use Rattle.java_tree.specs.declared.tree.Simple.TheVariants as simple
use Rattle.java_tree.specs.declared.tree.Value.{Value}
use Rattle.java_types.specs.declared.statements.Around.{Around}
use Rattle.java_types.specs.declared.walk.Walk.{Walk}
use Rattle.java_types.specs.Simples.{assigned, simple_walk}
use Rattle.annotations.specs.declared.walk.Walk.{Walk as MarkingWalk}
use Rattle.annotations.specs.Simples as marking_simples
use Rattle.annotations.specs.Walks.{unmerged}
use Rattle.access_blocks.specs.ResolvingStatements.{simple_of}
use Rattle.typed_bodies.specs.Laws.{ExpressionsAreTyped}
use Rattle.typed_bodies.specs.PartLaws.{PartsAreTyped}
use Rattle.typed_bodies.specs.StayLaws.{PartsStay}
use Rattle.typed_bodies.specs.WholeLaws.{WholesAreTyped}
use Rattle.typed_statements.specs.Points.{Setting, IsSoundSomewhere}
use Rattle.typed_statements.specs.Goes.{Goes}
use Rattle.typed_statements.specs.Leaves.{Stated}
use Rattle.typed_statements.proofs.Assigning.{assigned_goes}
use Rattle.typed_statements.proofs.Calling.{call_goes}
use Rattle.typed_statements.proofs.Compounding.{compound_goes}
use Rattle.typed_statements.proofs.Counting.{post_goes, pre_goes}

module _ (expressions : ExpressionsAreTyped) (wholes : WholesAreTyped) (parts : PartsAreTyped) (stay : PartsStay) (k : Setting) (there : IsSoundSomewhere k) (a : Around) (w : Walk) (u : MarkingWalk) where
  abbrev SimpleGoes : Simple → Type 0
  SimpleGoes s = Goes k w (simple_walk k.env s w) u (unmerged (marking_simples.simple_walk k.marks s u)) (simple_of k.scope s) (Stated k a)

  assignment_goes : (name : List ℕ) (op : AssignOp) (v : Value) → SimpleGoes (simple.Assign name op v)
  unfolding assigned
  assignment_goes name assign.Assign v = assigned_goes expressions wholes stay k there a name v w u
  assignment_goes name assign.Add v = compound_goes expressions parts stay k there a assign.Add bin.Add refl name v w u
  assignment_goes name assign.Sub v = compound_goes expressions parts stay k there a assign.Sub bin.Sub refl name v w u
  assignment_goes name assign.Mul v = compound_goes expressions parts stay k there a assign.Mul bin.Mul refl name v w u
  assignment_goes name assign.Div v = compound_goes expressions parts stay k there a assign.Div bin.Div refl name v w u
  assignment_goes name assign.Rem v = compound_goes expressions parts stay k there a assign.Rem bin.Rem refl name v w u
  assignment_goes name assign.And v = compound_goes expressions parts stay k there a assign.And bin.And refl name v w u
  assignment_goes name assign.Or v = compound_goes expressions parts stay k there a assign.Or bin.Or refl name v w u
  assignment_goes name assign.Xor v = compound_goes expressions parts stay k there a assign.Xor bin.Xor refl name v w u
  assignment_goes name assign.Shl v = compound_goes expressions parts stay k there a assign.Shl bin.Shl refl name v w u
  assignment_goes name assign.Shr v = compound_goes expressions parts stay k there a assign.Shr bin.Shr refl name v w u
  assignment_goes name assign.UShr v = compound_goes expressions parts stay k there a assign.UShr bin.UShr refl name v w u

  pub simple_goes : (s : Simple) → SimpleGoes s
  simple_goes (simple.Assign name op v) = assignment_goes name op v
  simple_goes (simple.PostIncrement name) = post_goes parts k a name bin.Add refl w u
  simple_goes (simple.PostDecrement name) = post_goes parts k a name bin.Sub refl w u
  simple_goes (simple.PreIncrement name) = pre_goes parts k a name bin.Add refl w u
  simple_goes (simple.PreDecrement name) = pre_goes parts k a name bin.Sub refl w u
  simple_goes (simple.Call is_global call) = call_goes expressions wholes stay k there a is_global call w u
