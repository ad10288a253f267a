-- Worked examples, by computation.
use Rattle.std.proofs.Common.{◌≡◌, refl, ℕ, pos, List, [], ◌∷◌, None, Some, codes}
use Rattle.sdg_base.specs.declared.val.Num.TheVariants as num
use Rattle.sdg_base.specs.declared.operator.BinOp.TheVariants as bin
use Rattle.sdg_base.specs.declared.store.ClassName.TheVariants as class_name
use Rattle.early_tables.specs.declared.method.Method.TheVariants as method
use Rattle.early_task_code.specs.declared.graph.Instr.TheVariants as instr
use Rattle.early_task_code.specs.declared.graph.TaskKind.TheVariants as task_kind
use Rattle.early_task_code.specs.declared.graph.VarType.TheVariants as var_type
use Rattle.early_task_code.specs.declared.graph.MethodKind.TheVariants as method_kind
use Rattle.early_task_code.specs.declared.graph.FieldKind.TheVariants as field_kind
use Rattle.early_task_code.specs.declared.graph.Graph.{Graph}
use Rattle.early_forms.specs.declared.straight.Atom.TheVariants.{Literal, Variable}
use Rattle.early_forms.specs.declared.straight.Sum.{Sum}
use Rattle.early_forms.specs.declared.straight.Statement.TheVariants.{Get, Put}
use Rattle.early_forms.specs.declared.straight.Ending.TheVariants as ending
use Rattle.early_forms.specs.declared.straight.StraightMethod.{StraightMethod}
use Rattle.early_forms.specs.declared.straight.StraightClass.{StraightClass}
use Rattle.early_cutter.specs.Lowering.{lowered}
use Rattle.early_cutter.specs.Cutting.{graph_of}

abbrev variable : List ℕ → Sum
variable name = record { first = Variable name; others = [] }

abbrev plus_one : List ℕ → Sum
plus_one name = record { first = Variable name; others = Literal 1 ∷ [] }

-- class G { @Partitioned Table t = new Table(); long get(long k, long d) { return t.get(k); } }
abbrev one_get : StraightClass
one_get =
    record {
      name = codes "G";
      fields = codes "t" ∷ [];
      places = [];
      methods = record { name = codes "get"; parameters = codes "k" ∷ codes "d" ∷ []; statements = []; ending = ending.Get (codes "t") (variable (codes "k")) } ∷ [];
    }

-- the keyed task carries the first variable alone
abbrev graph_of_one_get : Graph
graph_of_one_get =
    record {
      class = codes "G";
      fields = record { name = codes "t"; class = class_name.Table; kind = field_kind.Partitioned } ∷ [];
      methods = record {
        code = instr.Load 0 ∷ instr.Turn ∷ instr.Cut 1 ∷ instr.Load 0 ∷ instr.Access 0 method.Get ∷ instr.Return ∷ [];
        kind = method_kind.Entry;
        name = codes "get";
        params = 2;
        result = Some var_type.Long;
        vars = var_type.Long ∷ var_type.Long ∷ [];
      } ∷ [];
      tasks = record { at = 0; field = None; kind = task_kind.Start; method = 0; vars = 0 ∷ 1 ∷ [] }
          ∷ record { at = 3; field = Some 0; kind = task_kind.Keyed; method = 0; vars = 0 ∷ [] } ∷ [];
    }

one_get_cut : graph_of one_get ≡ graph_of_one_get
one_get_cut = refl

-- void bump(long j, long k) { long x = t.get(k); t.put(k, x + 1); t.put(j + 1, 1 + 2); }
abbrev bump : StraightMethod
bump =
    record {
      name = codes "bump";
      parameters = codes "j" ∷ codes "k" ∷ [];
      statements = Get (codes "x") (codes "t") (variable (codes "k"))
          ∷ Put (codes "t") (variable (codes "k")) (plus_one (codes "x"))
          ∷ Put (codes "t") (plus_one (codes "j")) (record { first = Literal 1; others = Literal 2 ∷ [] }) ∷ [];
      ending = ending.Nothing;
    }

-- one mark before the two accesses under k, and one before the compound key, which is carried
bump_lowered :
    lowered (codes "t" ∷ []) 5 bump
    ≡ instr.Load 1 ∷ instr.Turn ∷ instr.Cut 6 ∷ instr.Load 1 ∷ instr.Access 0 method.Get ∷ instr.Store 2
    ∷ instr.Load 1 ∷ instr.Load 2 ∷ instr.Int (pos 1) ∷ instr.Cast num.Long ∷ instr.Bin bin.Add num.Long ∷ instr.Access 0 method.Put
    ∷ instr.Load 0 ∷ instr.Int (pos 1) ∷ instr.Cast num.Long ∷ instr.Bin bin.Add num.Long ∷ instr.Turn ∷ instr.Cut 7
    ∷ instr.Key ∷ instr.Int (pos 1) ∷ instr.Int (pos 2) ∷ instr.Bin bin.Add num.Int ∷ instr.Cast num.Long ∷ instr.Access 0 method.Put
    ∷ instr.ReturnVoid ∷ []
bump_lowered = refl
