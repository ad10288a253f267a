-- Graphs, and what their items give, computed.
use Rattle.std.proofs.Common.{◌≡◌, refl, ℕ, pos, List, [], ◌∷◌, map, Some, None, codes}
use Rattle.early_forms.specs.declared.straight.Atom.TheVariants.{Literal, Variable}
use Rattle.early_forms.specs.declared.straight.Sum.{Sum}
use Rattle.early_forms.specs.declared.straight.Statement.TheVariants as s
use Rattle.early_forms.specs.declared.straight.Ending.TheVariants as ending
use Rattle.early_forms.specs.declared.straight.StraightClass.{StraightClass}
use Rattle.sdg_base.specs.declared.val.Num.TheVariants as num
use Rattle.sdg_base.specs.declared.operator.BinOp.TheVariants as bin
use Rattle.early_tables.specs.declared.method.Method.TheVariants as method
use Rattle.sdg_base.specs.declared.val.Val.TheVariants as val
use Rattle.sdg_base.specs.declared.val.Outcome.TheVariants as outcome
use Rattle.sdg_base.specs.declared.port.Port.TheVariants as port
use Rattle.sdg_base.specs.declared.item.Item.TheVariants as item
use Rattle.early_tables.specs.States.{Nothing, OfTable}
use Rattle.early_task_code.specs.Machine.{runs}
use Rattle.early_task_code.specs.declared.graph.Instr.TheVariants as instr
use Rattle.early_task_code.specs.declared.graph.TaskKind.TheVariants as task
use Rattle.early_cutter.specs.Cutting.{graph_of}

abbrev name : List ℕ → Sum
name x = record { first = Variable x; others = [] }

abbrev number : ℕ → Sum
number n = record { first = Literal n; others = [] }

-- class G { @Partitioned Table t = new Table(); long get(long k, long d) { return t.get(k); } }
abbrev one_get : StraightClass
one_get = record {
  name = codes "G";
  fields = codes "t" ∷ [];
  places = [];
  methods = record { name = codes "get"; parameters = codes "k" ∷ codes "d" ∷ []; statements = []; ending = ending.Get (codes "t") (name (codes "k")) } ∷ [];
}

one_get-code : map (λ m. m.code) (graph_of one_get).methods
    ≡ (instr.Load 0 ∷ instr.Turn ∷ instr.Cut 1 ∷ instr.Load 0 ∷ instr.Access 0 method.Get ∷ instr.Return ∷ []) ∷ []
one_get-code = refl

one_get-tasks : (graph_of one_get).tasks
    ≡ record { at = 0; field = None; kind = task.Start; method = 0; vars = 0 ∷ 1 ∷ [] }
    ∷ record { at = 3; field = Some 0; kind = task.Keyed; method = 0; vars = 0 ∷ [] } ∷ []
one_get-tasks = refl

-- class Two {
--   @Partitioned Table t = new Table();
--   @Partitioned Table u = new Table();
--   void put(long k, long v) { t.put(k, v); }
--   void move(long k) { long x = t.get(k); u.put(k, x); t.put(k, 0); }
--   long see(long k) { return u.get(k + 1); }
-- }
abbrev two_tables : StraightClass
two_tables = record {
  name = codes "Two";
  fields = codes "t" ∷ codes "u" ∷ [];
  places = [];
  methods = record {
    name = codes "put";
    parameters = codes "k" ∷ codes "v" ∷ [];
    statements = s.Put (codes "t") (name (codes "k")) (name (codes "v")) ∷ [];
    ending = ending.Nothing;
  } ∷ record {
    name = codes "move";
    parameters = codes "k" ∷ [];
    statements = s.Get (codes "x") (codes "t") (name (codes "k")) ∷ s.Put (codes "u") (name (codes "k")) (name (codes "x")) ∷ s.Put (codes "t") (name (codes "k")) (number 0) ∷ [];
    ending = ending.Nothing;
  } ∷ record {
    name = codes "see";
    parameters = codes "k" ∷ [];
    statements = [];
    ending = ending.Get (codes "u") (record { first = Variable (codes "k"); others = Literal 1 ∷ [] });
  } ∷ [];
}

two_tables-code : map (λ m. m.code) (graph_of two_tables).methods
    ≡ (instr.Load 0 ∷ instr.Turn ∷ instr.Cut 1 ∷ instr.Load 0 ∷ instr.Load 1 ∷ instr.Access 0 method.Put ∷ instr.ReturnVoid ∷ [])
    ∷ (instr.Load 0 ∷ instr.Turn ∷ instr.Cut 3 ∷ instr.Load 0 ∷ instr.Access 0 method.Get ∷ instr.Store 1
    ∷ instr.Load 0 ∷ instr.Turn ∷ instr.Cut 4 ∷ instr.Load 0 ∷ instr.Load 1 ∷ instr.Access 1 method.Put
    ∷ instr.Load 0 ∷ instr.Turn ∷ instr.Cut 5 ∷ instr.Load 0 ∷ instr.Int (pos 0) ∷ instr.Cast num.Long ∷ instr.Access 0 method.Put ∷ instr.ReturnVoid ∷ [])
    ∷ (instr.Load 0 ∷ instr.Int (pos 1) ∷ instr.Cast num.Long ∷ instr.Bin bin.Add num.Long ∷ instr.Turn ∷ instr.Cut 7 ∷ instr.Key ∷ instr.Access 1 method.Get ∷ instr.Return ∷ [])
    ∷ []
two_tables-code = refl

two_tables-tasks : (graph_of two_tables).tasks
    ≡ record { at = 0; field = None; kind = task.Start; method = 0; vars = 0 ∷ 1 ∷ [] }
    ∷ record { at = 3; field = Some 0; kind = task.Keyed; method = 0; vars = 0 ∷ 1 ∷ [] }
    ∷ record { at = 0; field = None; kind = task.Start; method = 1; vars = 0 ∷ [] }
    ∷ record { at = 3; field = Some 0; kind = task.Keyed; method = 1; vars = 0 ∷ [] }
    ∷ record { at = 9; field = Some 1; kind = task.Keyed; method = 1; vars = 0 ∷ 1 ∷ [] }
    ∷ record { at = 15; field = Some 0; kind = task.Keyed; method = 1; vars = 0 ∷ [] }
    ∷ record { at = 0; field = None; kind = task.Start; method = 2; vars = 0 ∷ [] }
    ∷ record { at = 6; field = Some 1; kind = task.Keyed; method = 2; vars = [] } ∷ []
two_tables-tasks = refl

-- A call of `get` begins, and its work on a slot that holds 42 under 5 ends it.
get_begins : runs (graph_of one_get) 1 port.Front (item.Start 1 0 (val.Long (pos 5) ∷ val.Long (pos 9) ∷ [])) Nothing
    ≡ Some (record { outputs = (port.Slot 0 0, item.Work 1 1 (Some (pos 5)) 99999 (val.Long (pos 5) ∷ [])) ∷ []; state = Nothing })
get_begins = refl

get_goes_on : runs (graph_of one_get) 1 (port.Slot 0 0) (item.Work 1 1 (Some (pos 5)) 99999 (val.Long (pos 5) ∷ [])) (OfTable ((pos 5, pos 42) ∷ []))
    ≡ Some (record { outputs = (port.Sink, item.Done 1 (outcome.Value (val.Long (pos 42)))) ∷ []; state = OfTable ((pos 5, pos 42) ∷ []) })
get_goes_on = refl

-- `move` takes 7 from one table to the other.
move_takes : runs (graph_of two_tables) 1 (port.Slot 0 0) (item.Work 1 3 (Some (pos 1)) 9 (val.Long (pos 1) ∷ [])) (OfTable ((pos 1, pos 7) ∷ []))
    ≡ Some (record { outputs = (port.Slot 1 0, item.Work 1 4 (Some (pos 1)) 8 (val.Long (pos 1) ∷ val.Long (pos 7) ∷ [])) ∷ []; state = OfTable ((pos 1, pos 7) ∷ []) })
move_takes = refl

move_puts : runs (graph_of two_tables) 1 (port.Slot 1 0) (item.Work 1 4 (Some (pos 1)) 8 (val.Long (pos 1) ∷ val.Long (pos 7) ∷ [])) (OfTable [])
    ≡ Some (record { outputs = (port.Slot 0 0, item.Work 1 5 (Some (pos 1)) 7 (val.Long (pos 1) ∷ [])) ∷ []; state = OfTable ((pos 1, pos 7) ∷ []) })
move_puts = refl

move_clears : runs (graph_of two_tables) 1 (port.Slot 0 0) (item.Work 1 5 (Some (pos 1)) 7 (val.Long (pos 1) ∷ [])) (OfTable ((pos 1, pos 7) ∷ []))
    ≡ Some (record { outputs = (port.Sink, item.Done 1 (outcome.Value val.Unit)) ∷ []; state = OfTable ((pos 1, pos 0) ∷ []) })
move_clears = refl

-- A call that has no turn left ends with the limit.
no_turn_left : runs (graph_of two_tables) 1 (port.Slot 0 0) (item.Work 1 3 (Some (pos 1)) 0 (val.Long (pos 1) ∷ [])) (OfTable [])
    ≡ Some (record { outputs = (port.Sink, item.Done 1 outcome.Limit) ∷ []; state = OfTable [] })
no_turn_left = refl

-- A second access of one key has no mark, and a local that is its key has one behind its declaration.
-- long twice(long k) { t.put(k, 1); long x = t.get(k); t.put(x, 2); return x + 3; }
abbrev one_site : StraightClass
one_site = record {
  name = codes "S";
  fields = codes "t" ∷ [];
  places = [];
  methods = record {
    name = codes "twice";
    parameters = codes "k" ∷ [];
    statements = s.Put (codes "t") (name (codes "k")) (number 1) ∷ s.Get (codes "x") (codes "t") (name (codes "k")) ∷ s.Put (codes "t") (name (codes "x")) (number 2) ∷ [];
    ending = ending.Sum (record { first = Variable (codes "x"); others = Literal 3 ∷ [] });
  } ∷ [];
}

one_site-code : map (λ m. m.code) (graph_of one_site).methods
    ≡ (instr.Load 0 ∷ instr.Turn ∷ instr.Cut 1 ∷ instr.Load 0 ∷ instr.Int (pos 1) ∷ instr.Cast num.Long ∷ instr.Access 0 method.Put
    ∷ instr.Load 0 ∷ instr.Access 0 method.Get ∷ instr.Store 1
    ∷ instr.Load 1 ∷ instr.Turn ∷ instr.Cut 2 ∷ instr.Load 1 ∷ instr.Int (pos 2) ∷ instr.Cast num.Long ∷ instr.Access 0 method.Put
    ∷ instr.Load 1 ∷ instr.Int (pos 3) ∷ instr.Cast num.Long ∷ instr.Bin bin.Add num.Long ∷ instr.Return ∷ []) ∷ []
one_site-code = refl
