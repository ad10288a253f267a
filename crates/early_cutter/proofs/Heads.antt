-- The first access of statements: the source's run up to its mark, or through it where it has none.
use Rattle.std.proofs.Common.{◌≡◌, refl, ℕ, ℤ, Bool, true, false, not, if◌then◌else◌, List, [], ◌∷◌, Option, Some, codes, sym, ap, subst, ◌∙◌, Contains}
use Rattle.std.proofs.lemmas.Option.{some_pair_parts}
use Rattle.sdg_base.specs.declared.val.Val.TheVariants as val
use Rattle.java_tree.specs.declared.tree.Value.{Value}
use Rattle.java_tree.specs.declared.tree.BlockItem.{BlockItem, out-BlockItem}
use Rattle.early_forms.specs.declared.straight.Sum.{Sum}
use Rattle.early_forms.specs.declared.straight.Statement.{Statement}
use Rattle.early_forms.specs.declared.straight.Statement.TheVariants as s
use Rattle.early_forms.specs.declared.straight.Ending.{Ending}
use Rattle.early_forms.specs.declared.straight.Ending.TheVariants as ending
use Rattle.early_forms.specs.Names.{BodyIsKnown, SumIsKnown}
use Rattle.early_forms.specs.Trees.{sum_tree, plain, got, return_value, long_local, put_statement, body_tree}
use Rattle.early_source.specs.Variables.{Variables, Tables}
use Rattle.early_source.specs.Expressions.{long_of}
use Rattle.early_source.specs.Sites.{Access, Site, access_of, site_of, same_site, is_marked}
use Rattle.early_source.specs.Blocks.{run_from, run_block, first_of_list, marked_access, reach, go_on, key_value}
use Rattle.early_plain.specs.Keys.{written_site}
use Rattle.early_cutter.specs.Agrees.{first_access}
use Rattle.early_cutter.proofs.Statements.{made, access_of-put, access_of-return, access_of-local, site_of-made}

-- the first statement's tree, with its access
pub record Head (fields : List (List ℕ)) (trees : List BlockItem) (name : List ℕ) (written : Sum) : Type 0 where
  pub first : BlockItem
  pub rest : List BlockItem
  pub access : Access
  pub others : List Value
  pub are_trees : trees ≡ first ∷ rest
  pub accesses : access_of fields (out-BlockItem first) ≡ Some access
  pub is_site : site_of access ≡ written_site name written
  pub are_args : access.args ≡ plain (sum_tree written) ∷ others

-- the field of an access is the class's, and its key is known
pub record HeadIsKnown (fields scope : List (List ℕ)) (name : List ℕ) (written : Sum) : Type 0 where
  pub field : Contains fields name
  pub key : SumIsKnown scope written

head_as : (fields : List (List ℕ)) (trees : List BlockItem) (field name : List ℕ) (key written : Sum) → (field ≡ name) × (key ≡ written) → Head fields trees field key → Head fields trees name written
head_as fields trees field name key written same head = subst (λ n. Head fields trees n written) same.0 (subst (λ k. Head fields trees field k) same.1 head)

known_as : (fields scope : List (List ℕ)) (field name : List ℕ) (key written : Sum) → (field ≡ name) × (key ≡ written) → HeadIsKnown fields scope field key → HeadIsKnown fields scope name written
known_as fields scope field name key written same head = subst (λ n. HeadIsKnown fields scope n written) same.0 (subst (λ k. HeadIsKnown fields scope field k) same.1 head)

pub head_known : (fields scope : List (List ℕ)) (ss : List Statement) (end : Ending) (name : List ℕ) (written : Sum) → first_access ss end ≡ Some (name, written) → BodyIsKnown fields scope ss end
    → HeadIsKnown fields scope name written
head_known fields scope [] ending.Nothing name written is known = absurd (cc)
head_known fields scope [] (ending.Sum value) name written is known = absurd (cc)
head_known fields scope [] (ending.Get field key) name written is known =
    known_as fields scope field name key written (some_pair_parts field name key written is) (record { field = known.0; key = known.1 })
head_known fields scope (s.Set local value ∷ ss) end name written is known = absurd (cc)
head_known fields scope (s.Get local field key ∷ ss) end name written is known =
    known_as fields scope field name key written (some_pair_parts field name key written is) (record { field = known.0.0; key = known.0.1 })
head_known fields scope (s.Put field key value ∷ ss) end name written is known =
    known_as fields scope field name key written (some_pair_parts field name key written is) (record { field = known.0.0; key = known.0.1 })

pub head_of : (fields : List (List ℕ)) (ss : List Statement) (end : Ending) (name : List ℕ) (written : Sum) → first_access ss end ≡ Some (name, written) → Contains fields name
    → Head fields (body_tree ss end) name written
head_of fields [] ending.Nothing name written is contains = absurd (cc)
head_of fields [] (ending.Sum value) name written is contains = absurd (cc)
head_of fields [] (ending.Get field key) name written is contains =
    let same = some_pair_parts field name key written is in
    let there : Contains fields field = subst (Contains fields) (sym same.0) contains in
    head_as fields (body_tree [] (ending.Get field key)) field name key written same (record {
      first = return_value (got field key);
      rest = [];
      access = made field (codes "get") (sum_tree key ∷ []);
      others = [];
      are_trees = refl;
      accesses = access_of-return fields field key there;
      is_site = site_of-made field (codes "get") key [];
      are_args = refl;
    })
head_of fields (s.Set local value ∷ ss) end name written is contains = absurd (cc)
head_of fields (s.Get local field key ∷ ss) end name written is contains =
    let same = some_pair_parts field name key written is in
    let there : Contains fields field = subst (Contains fields) (sym same.0) contains in
    head_as fields (body_tree (s.Get local field key ∷ ss) end) field name key written same (record {
      first = long_local local (got field key);
      rest = body_tree ss end;
      access = made field (codes "get") (sum_tree key ∷ []);
      others = [];
      are_trees = refl;
      accesses = access_of-local fields local field key there;
      is_site = site_of-made field (codes "get") key [];
      are_args = refl;
    })
head_of fields (s.Put field key value ∷ ss) end name written is contains =
    let same = some_pair_parts field name key written is in
    let there : Contains fields field = subst (Contains fields) (sym same.0) contains in
    head_as fields (body_tree (s.Put field key value ∷ ss) end) field name key written same (record {
      first = put_statement field key value;
      rest = body_tree ss end;
      access = made field (codes "put") (sum_tree key ∷ sum_tree value ∷ []);
      others = plain (sum_tree value) ∷ [];
      are_trees = refl;
      accesses = access_of-put fields field key value there;
      is_site = site_of-made field (codes "put") key (sum_tree value ∷ []);
      are_args = refl;
    })

-- ---- up to the mark, or through it

key_at : (args others : List Value) (written : Sum) (variables : Variables) (k : ℤ) → args ≡ plain (sum_tree written) ∷ others → long_of (plain (sum_tree written)) variables ≡ Some (val.Long k)
    → key_value args variables ≡ Some (val.Long k)
key_at args others written variables k are is = ap (λ a. key_value a variables) are ∙ is

is_marked-site : (site : Option Site) (access : Access) (name : List ℕ) (written : Sum) (b : Bool) → site_of access ≡ written_site name written → same_site site (written_site name written) ≡ b
    → is_marked site access ≡ not b
is_marked-site site access name written b is same = ap (λ x. not (same_site site x)) is ∙ ap not same

-- the source up to the mark
pub runs_to_mark : (fields : List (List ℕ)) (trees : List BlockItem) (site : Option Site) (name : List ℕ) (written : Sum) (variables : Variables) (turns : ℕ) (tables : Tables) (k : ℤ)
    → Head fields trees name written → same_site site (written_site name written) ≡ false → long_of (plain (sum_tree written)) variables ≡ Some (val.Long k)
    → run_from fields trees site variables turns tables ≡ reach trees variables turns tables (Some (val.Long k))
runs_to_mark fields trees site name written variables turns tables k head other is =
    let first = head.first in
    let rest = head.rest in
    let a = head.access in
    let next = run_from fields rest in
    let key = key_at a.args head.others written variables k head.are_args is in
    ap (λ ts. run_from fields ts site variables turns tables) head.are_trees
    ∙ ap (λ o. first_of_list next first rest o site variables turns tables) head.accesses
    ∙ ap (λ (b : Bool). if b then reach (first ∷ rest) variables turns tables (key_value a.args variables) else go_on next first a variables turns tables (key_value a.args variables))
    (is_marked-site site a name written false head.is_site other)
    ∙ ap (reach (first ∷ rest) variables turns tables) key
    ∙ ap (λ ts. reach ts variables turns tables (Some (val.Long k))) (sym head.are_trees)

-- the source through an access without mark, as if it went on from a mark
pub runs_through : (fields : List (List ℕ)) (trees : List BlockItem) (site : Option Site) (name : List ℕ) (written : Sum) (variables : Variables) (turns : ℕ) (tables : Tables) (k : ℤ)
    → Head fields trees name written → same_site site (written_site name written) ≡ true → long_of (plain (sum_tree written)) variables ≡ Some (val.Long k)
    → run_from fields trees site variables turns tables ≡ run_block fields trees variables turns (val.Long k) tables
runs_through fields trees site name written variables turns tables k head same is =
    let first = head.first in
    let rest = head.rest in
    let a = head.access in
    let next = run_from fields rest in
    let key = key_at a.args head.others written variables k head.are_args is in
    ap (λ ts. run_from fields ts site variables turns tables) head.are_trees
    ∙ ap (λ o. first_of_list next first rest o site variables turns tables) head.accesses
    ∙ ap (λ (b : Bool). if b then reach (first ∷ rest) variables turns tables (key_value a.args variables) else go_on next first a variables turns tables (key_value a.args variables))
    (is_marked-site site a name written true head.is_site same)
    ∙ ap (go_on next first a variables turns tables) key
    ∙ sym (ap (λ ts. run_block fields ts variables turns (val.Long k) tables) head.are_trees
    ∙ ap (λ o. marked_access fields first rest o variables turns (val.Long k) tables) head.accesses)
