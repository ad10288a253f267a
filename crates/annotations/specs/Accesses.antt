-- Accesses to state, the rules on them, and their sites.
use Rattle.std.specs.Prelude.{ℕ, ℤ, Bool, true, false, not, ◌&&◌, ◌||◌, List, slice_get, Option, Some, None, unwrap_or}
use Rattle.std.specs.Int.{cast_signed, w64}
use Rattle.sdg_base.specs.declared.store.ClassName.{ClassName}
use Rattle.sdg_base.specs.declared.val.Num.TheVariants as num
use Rattle.sdg_base.specs.declared.value_type.ValueType.{ValueType}
use Rattle.sdg_base.specs.declared.value_type.ValueType.TheVariants as result_type
use Rattle.sdg_base.specs.Arithmetic.{wrap}
use Rattle.sdg_base.specs.Signatures.{Signature, state_method}
use Rattle.java_tree.specs.declared.types.Declaration.{Declaration}
use Rattle.annotations.specs.declared.site.FieldKind.{FieldKind}
use Rattle.annotations.specs.declared.site.FieldKind.TheVariants.{Partitioned, Partial}
use Rattle.annotations.specs.declared.site.Key.{Key}
use Rattle.annotations.specs.declared.site.Key.TheVariants as keys
use Rattle.annotations.specs.declared.site.Reach.{Reach}
use Rattle.annotations.specs.declared.site.Reach.TheVariants as reach
use Rattle.annotations.specs.declared.position.Position.{Position}
use Rattle.annotations.specs.declared.walk.Env.{Env}
use Rattle.annotations.specs.declared.walk.Walk.{Walk}
use Rattle.annotations.specs.Positions.{is_whole, is_for_global}
use Rattle.annotations.specs.Walks.{noted, kind_at}

-- ---- the methods of fields

abbrev pub method_in : Option ClassName → List ℕ → Option Signature
method_in None name = None
method_in (Some class) name = state_method class name

-- the method of this name of the field of this number
abbrev pub method_at : Env → ℕ → List ℕ → Option Signature
method_at env field name = method_in (unwrap_or (slice_get env.classes field) None) name

-- Its first argument is the key.
abbrev pub is_keyed : Option Signature → Bool
is_keyed None = false
is_keyed (Some s) = s.keyed

abbrev pub is_value : ValueType → Bool
is_value result_type.Void = false
is_value _ = true

abbrev pub answers_value : Option Signature → Bool
answers_value None = false
answers_value (Some s) = is_value s.result

-- ---- sites

-- A literal is what its digits write in two's complement (JLS 3.10.1): a long, or an int, which is widened.
abbrev pub literal_value : ℕ → Bool → ℤ
literal_value digits true = cast_signed w64 digits
literal_value digits false = wrap num.Int (cast_signed w64 digits)

-- What a name stands for as a key. One without a declaration stands only in classes that are refused.
abbrev pub variable_key : Option Declaration → Key
variable_key None = keys.Compound
variable_key (Some d) = keys.Variable d

abbrev pub is_partitioned : FieldKind → Bool
is_partitioned Partitioned = true
is_partitioned Partial = false

-- A partitioned field has the part of a key, a partial field an instance or all.
abbrev pub reach_of : FieldKind → Bool → Key → Reach
reach_of Partitioned is_global key = reach.Key key
reach_of Partial true key = reach.Global
reach_of Partial false key = reach.Local

-- ---- rules

-- Rules 4 and 8: where `@Global` stands before an access to a field that is partitioned or not.
abbrev pub globally : Position → Option ℕ → Bool → Walk → Walk
globally position None partitioned w = w
globally position (Some at) partitioned w = noted (not (is_for_global position)) at 8 (noted partitioned at 4 w)

-- Rules 3 to 6 and 8: an access to the field of this number, whose name comes next, by the method of this name.
unfoldable pub accessed : Env → ℕ → Position → Option ℕ → List ℕ → Walk → Walk
accessed env field position global name w =
    let partitioned = is_partitioned (kind_at env field) in
    noted (not w.in_entry) w.at 6 (noted (not (is_whole position) || w.in_header) w.at 5
    (globally position global partitioned (noted (partitioned && not (is_keyed (method_at env field name))) w.at 3 w)))
