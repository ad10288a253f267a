-- What an answer is due, whose status and text are known.
use Rattle.std.proofs.Common.{◌≡◌, ℕ, Option, Some, None, sym, subst}
use Rattle.std.specs.Prelude.{IfOk, Result, Ok, Err}
use Rattle.std.specs.declared.alloc.AllocError.{AllocError}
use Rattle.run_text.specs.declared.error.TextError.{TextError}
use Rattle.run_text.specs.declared.error.TextError.TheVariants as t
use Rattle.sdg_top.specs.declared.answer.Answer.{Answer}
use Rattle.sdg_top.specs.declared.status.Status.{Status}
use Rattle.sdg_top.specs.declared.status.Status.TheVariants as status
use Rattle.java_tree.specs.declared.token.Place.{Place}
use Rattle.sdg_top.specs.Commands.{Text}

-- an answer of this status and this text
pub replied : (Due : Status → Text → Type 0) (result : Result Answer AllocError) (s : Status) (text : Text) → IfOk result (λ a. a.status ≡ s) → IfOk result (λ a. a.text ≡ text) → Due s text → IfOk result (λ a. Due a.status a.text)
replied Due (Ok a) s text status_is text_is due = subst (λ (x : Status). Due x a.text) (sym status_is) (subst (λ (t : Text). Due s t) (sym text_is) due)
replied Due (Err e) s text status_is text_is due = tt

pub refused : (Due : Status → Text → Type 0) (result : Result Answer AllocError) (text : Text) → IfOk result (λ a. a.status ≡ status.Text) → IfOk result (λ a. a.text ≡ text) → Due status.Text text → IfOk result (λ a. Due a.status a.text)
refused Due result text = replied Due result status.Text text

pub class_refused : (Due : Status → Text → Type 0) (result : Result Answer AllocError) (text : Text) → IfOk result (λ a. a.status ≡ status.Class) → IfOk result (λ a. a.text ≡ text) → Due status.Class text → IfOk result (λ a. Due a.status a.text)
class_refused Due result text = replied Due result status.Class text

-- a text that was made of one thing is that of another that equals it
pub retold : {A : Type 0} (result : Result Answer AllocError) (text_of : A → Text) (x y : A) → x ≡ y → IfOk result (λ a. a.text ≡ text_of x) → IfOk result (λ a. a.text ≡ text_of y)
retold result text_of x y e is = subst (λ z. IfOk result (λ a. a.text ≡ text_of z)) e is

-- a line that breaks a rule is no want of memory
pub no_memory : (e : TextError) (line rule : ℕ) → e ≡ t.Bad line rule → e ≡ t.Memory → ⊥
no_memory e line rule bad memory = absurd cc

pub not_both : (o : Option Place) (at : Place) → o ≡ None → o ≡ Some at → ⊥
not_both o at none some = absurd cc
