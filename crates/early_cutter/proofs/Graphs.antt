-- The fields, methods and tasks of a graph, and the variables with which a call begins.
use Rattle.std.proofs.Common.{◌≡◌, refl, ℕ, zero, suc, ℤ, ◌+◌, ◌-◌, ◌<◌, ◌≤◌, Bool, true, false, if◌then◌else◌, List, [], ◌∷◌, ◌++◌, map, length, replicate, Some, slice_get, sym, ap, subst, ◌∙◌, arith, All}
use Rattle.std.specs.List.{filter_map, zip}
use Rattle.std.specs.Option.{option_map}
use Rattle.std.specs.Str.{bytes_eq}
use Rattle.std.proofs.lemmas.Option.{slice_get-map, slice_get_within}
use Rattle.std.proofs.lemmas.List.{length-append, length-replicate}
use Rattle.std.proofs.lemmas.List.Elements.{All-head, All-tail}
use Rattle.sdg_base.specs.declared.val.Val.{Val}
use Rattle.sdg_base.specs.declared.val.Val.TheVariants as val
use Rattle.early_forms.specs.declared.straight.StraightMethod.{StraightMethod}
use Rattle.early_forms.specs.declared.straight.StraightClass.{StraightClass}
use Rattle.early_forms.specs.Names.{variables, locals}
use Rattle.early_forms.specs.Trees.{class_tree, method_tree, table_member, method_member, long_parameter}
use Rattle.early_source.specs.Variables.{named}
use Rattle.early_source.specs.Members.{field_name, method_in, fields, methods, variables_of}
use Rattle.early_task_code.specs.declared.graph.VarType.TheVariants as var
use Rattle.early_task_code.specs.declared.graph.Task.{Task}
use Rattle.early_task_code.specs.declared.graph.GraphMethod.{GraphMethod}
use Rattle.early_task_code.specs.Machine.{first_vars}
use Rattle.early_cutter.specs.Points.{number_in}
use Rattle.early_cutter.specs.Lowering.{first_point, lowered, lowered_method, lowered_methods, task_behind}
use Rattle.early_cutter.specs.Cutting.{cut_tasks, method_tasks, tasks_from}
use Rattle.early_plain.specs.Fits.{IsLong}
use Rattle.early_cutter.specs.Agrees.{Matches}
use Rattle.early_cutter.proofs.Lists.{get_front, get_behind}
use Rattle.early_cutter.proofs.Moves.{number_within}
use Rattle.early_cutter.proofs.Places.{are_body, length-cut_tasks}

-- ---- the class's tree

no_fields : (ms : List StraightMethod) → filter_map field_name (map method_member ms) ≡ []
no_fields [] = refl
no_fields (m ∷ ms) = no_fields ms

all_fields : (names : List (List ℕ)) → filter_map field_name (map table_member names) ≡ names
all_fields [] = refl
all_fields (name ∷ names) = ap (λ others. name ∷ others) (all_fields names)

no_methods : (names : List (List ℕ)) (ms : List StraightMethod) → filter_map method_in (map table_member names ++ map method_member ms) ≡ filter_map method_in (map method_member ms)
no_methods [] ms = refl
no_methods (name ∷ names) ms = no_methods names ms

all_methods : (ms : List StraightMethod) → filter_map method_in (map method_member ms) ≡ map method_tree ms
all_methods [] = refl
all_methods (m ∷ ms) = ap (λ others. method_tree m ∷ others) (all_methods ms)

before_methods : (names : List (List ℕ)) (ms : List StraightMethod) → filter_map field_name (map table_member names ++ map method_member ms) ≡ names
before_methods [] ms = no_fields ms
before_methods (name ∷ names) ms = ap (λ others. name ∷ others) (before_methods names ms)

pub fields-class_tree : (c : StraightClass) → fields (class_tree c) ≡ c.fields
fields-class_tree c = before_methods c.fields c.methods

pub method_at : (c : StraightClass) (n : ℕ) (m : StraightMethod) → slice_get c.methods n ≡ Some m → slice_get (methods (class_tree c)) n ≡ Some (method_tree m)
method_at c n m is =
    ap (λ ms. slice_get ms n) (no_methods c.fields c.methods ∙ all_methods c.methods) ∙ slice_get-map method_tree c.methods n ∙ ap (option_map method_tree) is

names_of : (names : List (List ℕ)) → map (λ p. p.name) (map long_parameter names) ≡ names
names_of [] = refl
names_of (name ∷ names) = ap (λ others. name ∷ others) (names_of names)

pub variables_of-method_tree : (m : StraightMethod) (args : List Val) → variables_of (method_tree m) args ≡ zip m.parameters args
variables_of-method_tree m args = ap (λ names. zip names args) (names_of m.parameters)

pub all_at : {A : Type 0} (P : A → Type 0) (xs : List A) (n : ℕ) (x : A) → All P xs → slice_get xs n ≡ Some x → P x
all_at P [] n x all is = absurd (cc)
all_at P (y ∷ ys) zero x all is = (let e : y ≡ x = cc in subst P e (All-head P y ys all))
all_at P (y ∷ ys) (suc n) x all is = all_at P ys n x (All-tail P y ys all) is

-- ---- methods and their tasks

-- as many tasks as the next method's start is behind this one's
length-method_tasks : (fields : List (List ℕ)) (start number : ℕ) (m : StraightMethod) → start + length (method_tasks number (lowered_method fields start m)) ≡ task_behind start m
length-method_tasks fields start number m =
    let code = lowered fields start m in
    let vars = length (lowered_method fields start m).vars in
    omega (arith, length-cut_tasks number vars 0 (start + 1) (task_behind start m) code (are_body fields (first_point start m) m.statements m.ending))

-- the method of a number, as a graph has it, and where the tasks of its cuts stand behind that of its start
pub record MethodFound (fields : List (List ℕ)) (start number : ℕ) (ms : List StraightMethod) (j : ℕ) (m : StraightMethod) : Type 0 where
  pub further : ℕ
  pub is_method : slice_get (lowered_methods fields start ms) j ≡ Some (lowered_method fields (start + further) m)
  pub tasks : (k : ℕ) (t : Task) → slice_get (cut_tasks (number + j) (length (lowered_method fields (start + further) m).vars) 0 (lowered fields (start + further) m)) k ≡ Some t
      → slice_get (tasks_from number (lowered_methods fields start ms)) (further + 1 + k) ≡ Some t

first_found : (fields : List (List ℕ)) (start number : ℕ) (m : StraightMethod) (ms : List StraightMethod) → MethodFound fields start number (m ∷ ms) 0 m
first_found fields start number m ms =
    let P : ℕ → Type 0 = λ st. slice_get (lowered_methods fields start (m ∷ ms)) 0 ≡ Some (lowered_method fields st m) in
    let starts : start ≡ start + 0 = omega arith in
    record {
      further = 0;
      is_method = subst P starts refl;
      tasks = λ k t there. at_first k t (subst (λ st. slice_get (cut_tasks (number + 0) (length (lowered_method fields st m).vars) 0 (lowered fields st m)) k ≡ Some t) (sym starts) there);
    }
  where
    at_first : (k : ℕ) (t : Task) → slice_get (cut_tasks (number + 0) (length (lowered_method fields start m).vars) 0 (lowered fields start m)) k ≡ Some t
        → slice_get (tasks_from number (lowered_methods fields start (m ∷ ms))) (0 + 1 + k) ≡ Some t
    at_first k t there =
        let g = lowered_method fields start m in
        let cuts = cut_tasks number (length g.vars) 0 g.code in
        let numbers : number + 0 ≡ number = omega arith in
        let here : slice_get cuts k ≡ Some t = subst (λ n. slice_get (cut_tasks n (length g.vars) 0 g.code) k ≡ Some t) numbers there in
        let places : 0 + 1 + k ≡ suc k = omega arith in
        ap (slice_get (tasks_from number (lowered_methods fields start (m ∷ ms)))) places
        ∙ get_front cuts (tasks_from (number + 1) (lowered_methods fields (task_behind start m) ms)) k (slice_get_within cuts k t here) ∙ here

later_found : (fields : List (List ℕ)) (start number : ℕ) (n : StraightMethod) (ms : List StraightMethod) (j : ℕ) (m : StraightMethod)
    → MethodFound fields (task_behind start n) (number + 1) ms j m → MethodFound fields start number (n ∷ ms) (suc j) m
later_found fields start number n ms j m found =
    let g = lowered_method fields start n in
    let count = length (method_tasks number g) in
    let lengths = length-method_tasks fields start number n in
    let starts : task_behind start n + found.further ≡ start + (count + found.further) = omega (arith, lengths) in
    record {
      further = count + found.further;
      is_method = subst (λ st. slice_get (lowered_methods fields start (n ∷ ms)) (suc j) ≡ Some (lowered_method fields st m)) starts found.is_method;
      tasks = λ k t there. at_later k t (subst (λ st. slice_get (cut_tasks (number + suc j) (length (lowered_method fields st m).vars) 0 (lowered fields st m)) k ≡ Some t) (sym starts) there);
    }
  where
    at_later : (k : ℕ) (t : Task)
        → (let st = task_behind start n + found.further in
        slice_get (cut_tasks (number + suc j) (length (lowered_method fields st m).vars) 0 (lowered fields st m)) k ≡ Some t)
        → slice_get (tasks_from number (lowered_methods fields start (n ∷ ms))) (length (method_tasks number (lowered_method fields start n)) + found.further + 1 + k) ≡ Some t
    at_later k t there =
        let st = task_behind start n + found.further in
        let mine = method_tasks number (lowered_method fields start n) in
        let others = tasks_from (number + 1) (lowered_methods fields (task_behind start n) ms) in
        let numbers : number + suc j ≡ number + 1 + j = omega arith in
        let here = subst (λ x. slice_get (cut_tasks x (length (lowered_method fields st m).vars) 0 (lowered fields st m)) k ≡ Some t) numbers there in
        let places : length mine + found.further + 1 + k ≡ length mine + (found.further + 1 + k) = omega arith in
        ap (slice_get (mine ++ others)) places ∙ get_behind mine others (found.further + 1 + k) ∙ found.tasks k t here

pub method_found : (fields : List (List ℕ)) (start number : ℕ) (ms : List StraightMethod) (j : ℕ) (m : StraightMethod) → slice_get ms j ≡ Some m → MethodFound fields start number ms j m
method_found fields start number [] j m is = absurd (cc)
method_found fields start number (n ∷ ms) zero m is = let e : n ≡ m = cc in subst (λ x. MethodFound fields start number (n ∷ ms) 0 x) e (first_found fields start number n ms)
method_found fields start number (n ∷ ms) (suc j) m is =
    later_found fields start number n ms j m (method_found fields (task_behind start n) (number + 1) ms j m is)

-- ---- the variables with which a call begins

long_in : (v : Val) → IsLong v → (n : ℤ) × (v ≡ val.Long n)
long_in (val.Int n) h = absurd h
long_in (val.Long n) h = (n, refl)
long_in (val.Bool b) h = absurd h
long_in (val.Vector xs) h = absurd h
long_in val.Unit h = absurd h

-- a parameter's value is its argument, for the source and for the machine
pub record Argument (names : List (List ℕ)) (args : List Val) (name : List ℕ) : Type 0 where
  pub number : ℤ
  pub is_named : named name (zip names args) ≡ Some (val.Long number)
  pub at : slice_get args (number_in names name) ≡ Some (val.Long number)

argument_here : (x name : List ℕ) (names : List (List ℕ)) (v : Val) (args : List Val) (b : Bool) → bytes_eq x name ≡ b → IsLong v → (b ≡ false → Argument names args name)
    → (n : ℤ) × ((if b then Some v else named name (zip names args)) ≡ Some (val.Long n)) × (slice_get (v ∷ args) (if b then zero else suc (number_in names name)) ≡ Some (val.Long n))
argument_here x name names v args true at long later = let n = long_in v long in (n.0, ap Some n.1, ap Some n.1)
argument_here x name names v args false at long later = let a = later refl in (a.number, a.is_named, a.at)

later_within : (n m : ℕ) (b : Bool) → b ≡ false → (if b then zero else suc n) < suc m → n < m
later_within n m true is h = absurd (cc)
later_within n m false is h = omega arith

argument : (names : List (List ℕ)) (args : List Val) (name : List ℕ) → length args ≡ length names → All IsLong args → number_in names name < length names → Argument names args name
argument [] args name as_many longs within = absurd (omega arith)
argument (x ∷ names) [] name as_many longs within = absurd (omega arith)
argument (x ∷ names) (v ∷ args) name as_many longs within =
    let found = argument_here x name names v args (bytes_eq x name) refl (All-head IsLong v args longs)
    (λ (other : bytes_eq x name ≡ false). argument names args name (omega arith) (All-tail IsLong v args longs)
    (later_within (number_in names name) (length names) (bytes_eq x name) other within)) in
    record { number = found.0; is_named = found.1; at = found.2 }

pub begins_with : (names : List (List ℕ)) (args others : List Val) → length args ≡ length names → All IsLong args → Matches names (zip names args) (args ++ others)
begins_with names args others as_many longs = record {
  longs = λ name contains. (let a = argument names args name as_many longs (number_within name names contains) in (a.number, a.is_named));
  at = λ name contains. (let a = argument names args name as_many longs (number_within name names contains) in
      get_front args others (number_in names name) (let w = number_within name names contains in omega arith) ∙ a.at ∙ sym a.is_named);
}

-- as many variables as parameters and locals
pub length-vars : (fields : List (List ℕ)) (start : ℕ) (m : StraightMethod) → length (lowered_method fields start m).vars ≡ length m.parameters + length (locals m.statements)
length-vars fields start m = length-replicate (length (variables m)) var.Long ∙ length-append m.parameters (locals m.statements)

pub length-first_vars : (g : GraphMethod) (args : List Val) → length args ≤ length g.vars → length (first_vars g args) ≡ length g.vars
length-first_vars g args few = omega (arith, length-append args (replicate (length g.vars - length args) val.Unit), length-replicate (length g.vars - length args) val.Unit)
