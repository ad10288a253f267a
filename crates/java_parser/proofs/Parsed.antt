-- What reading the tokens says of the tree.
use Rattle.std.proofs.Common.{◌≡◌, ◌≤◌, List, Result, Ok, Err, refl, sym, ◌∙◌}
use Rattle.java_tree.specs.declared.tree.Class.{Class}
use Rattle.java_tree.specs.Tokens.{tokens_of}
use Rattle.java_tree.specs.Placed.{IsWellPlaced}
use Rattle.java_tree.specs.Heights.{height, max_levels}
use Rattle.java_tree.specs.declared.token.Place.{Place}
use Rattle.java_tree.specs.declared.token.Token.{Token}
use Rattle.java_parser.specs.declared.error.ParseError.{ParseError}
use Rattle.java_parser.specs.declared.error.ParseError.TheVariants as errors
use Rattle.java_parser.specs.declared.error.Refusal.{Refusal}
use Rattle.java_parser.specs.declared.error.Refusal.TheVariants as refusal
use Rattle.java_parser.specs.Errors.{start, error_of}
use Rattle.java_parser.specs.Words.{Fails, kinds}
use Rattle.java_parser.specs.Classes.{class_at, body_levels}
use Rattle.java_parser.proofs.Laws.{same_Ok}
use Rattle.java_parser.proofs.ClassLaws.{is_read}
use Rattle.java_parser.proofs.Places.{places_of}

pub is_only : (tokens : List Token) (made c : Class) → class_at body_levels (places_of tokens) (kinds tokens) ≡ Ok made → tokens_of c ≡ tokens → IsWellPlaced c → height c ≤ max_levels → made ≡ c
is_only tokens made c read e placed low = same_Ok made c (sym read ∙ is_read tokens c e placed low)

-- where there is a tree, reading fails for want of memory alone
pub is_memory : (r : Refusal) (tokens : List Token) (c : Class) → Fails r (class_at body_levels (places_of tokens) (kinds tokens)) → tokens_of c ≡ tokens → IsWellPlaced c → height c ≤ max_levels → error_of r ≡ errors.Memory
is_memory refusal.Memory tokens c failed e placed low = refl
is_memory (refusal.NoClass left) tokens c failed e placed low = absurd (let read = is_read tokens c e placed low in cc)
is_memory (refusal.TooDeep left) tokens c failed e placed low = absurd (let read = is_read tokens c e placed low in cc)

pub same_error : (a b : ParseError) → ◌≡◌ {A = Result Class ParseError} (Err a) (Err b) → a ≡ b
same_error a b e = cc

pub is_start : (r : Refusal) (place : Place) → error_of r ≡ errors.NoClass place → place ≡ start
is_start (refusal.NoClass left) place e = cc
is_start (refusal.TooDeep left) place e = cc
is_start refusal.Memory place e = absurd cc
