use Rattle.std.proofs.Common.{◌≡◌, true, false, ◌++◌, ◌∷◌, [], is_some, List, sym, ap, ◌∙◌, Vec, Global, ℕ}
use Rattle.std.specs.Str.{bytes_eq}
use Rattle.std.specs.Map.{lookup}
use Rattle.indexmap.proofs.CallerLemmas.{insert_entry-new}
use Rattle.java_types.specs.Names.{entry_of}
use Rattle.java_types.proofs.Lookups.{entry_of-viewed, viewed, viewed-push, with_entry-known, with_entry-new, none_from}
use Rattle.java_types.proofs.names.Names.add.Goals as goal

abbrev text : Vec ℕ Global → List ℕ
text k = k.items

pub returns-then-contains_key : goal.returns-then-contains_key
returns-then-contains_key g c =
    let at = entry_of-viewed (λ k. k.items) c.args.name.now c.self.inside.entries.entries ∙ ap (entry_of c.args.name.now) c.self.view_is in
    let known : is_some (entry_of c.args.name.now c.args.self.now) ≡ true = sym (ap is_some at) ∙ sym c.contains_key.ensures ∙ c.if-contains_key.true in
    sym (with_entry-known c.args.name.now c.args.item c.args.self.now known)

pub returns-in-Ok : goal.returns-in-Ok
returns-in-Ok g c =
    let at = entry_of-viewed text c.args.name.now c.self.inside.entries.entries ∙ ap (entry_of c.args.name.now) c.self.view_is in
    let other : is_some (lookup (λ k. bytes_eq c.args.name.now (text k)) c.self.inside.entries.entries) ≡ false = sym c.contains_key.ensures ∙ c.if-contains_key.false in
    let new : is_some (entry_of c.args.name.now c.args.self.now) ≡ false = sym (ap is_some at) ∙ other in
    let absent =
    ap (λ n. lookup (λ k. bytes_eq n (text k)) c.self.inside.entries.entries) c.in_ok-key.ensures.items
    ∙ none_from (lookup (λ k. bytes_eq c.args.name.now (text k)) c.self.inside.entries.entries) other in
    ap (viewed text) (c.in-Ok.ensures.entries ∙ insert_entry-new (λ a b. bytes_eq (text a) (text b)) c.self.inside.entries c.in_ok-key.key c.args.item absent)
    ∙ viewed-push text c.self.inside.entries.entries c.in_ok-key.key c.args.item
    ∙ ap (λ n. viewed text c.self.inside.entries.entries ++ (n, c.args.item) ∷ []) c.in_ok-key.ensures.items
    ∙ ap (λ s. s ++ (c.args.name.now, c.args.item) ∷ []) c.self.view_is
    ∙ sym (with_entry-new c.args.name.now c.args.item c.args.self.now new)
