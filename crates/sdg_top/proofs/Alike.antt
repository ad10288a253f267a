-- Texts of files, by how many they are, and the command that they are of.
use Rattle.std.proofs.Common.{◌≡◌, [], ◌∷◌, Option, Some, None}
use Rattle.sdg_top.specs.Commands.{Text, Request, Run, Plain, Replay, Graph, AreAlike, BothRun, BothRunScheduled, BothPlain, BothReplay, BothGraph, texts_of}

pub two_of_run : (class_name calls_name : Text) (schedule_name : Option Text) (texts : Request) (class calls : Text) → AreAlike (Run class_name calls_name schedule_name) texts → class ∷ calls ∷ [] ≡ texts_of texts → Run class calls None ≡ texts
two_of_run class_name calls_name None texts class calls (BothRun c k class' calls') e = cc
two_of_run class_name calls_name (Some schedule_name) texts class calls (BothRunScheduled c k s class' calls' schedule') e = absurd cc

pub three_of_run : (class_name calls_name : Text) (schedule_name : Option Text) (texts : Request) (class calls schedule : Text) → AreAlike (Run class_name calls_name schedule_name) texts → class ∷ calls ∷ schedule ∷ [] ≡ texts_of texts
    → Run class calls (Some schedule) ≡ texts
three_of_run class_name calls_name None texts class calls schedule (BothRun c k class' calls') e = absurd cc
three_of_run class_name calls_name (Some schedule_name) texts class calls schedule (BothRunScheduled c k s class' calls' schedule') e = cc

pub two_of_plain : (class_name calls_name : Text) (texts : Request) (class calls : Text) → AreAlike (Plain class_name calls_name) texts → class ∷ calls ∷ [] ≡ texts_of texts → Plain class calls ≡ texts
two_of_plain class_name calls_name texts class calls (BothPlain c k class' calls') e = cc

pub three_of_replay : (class_name calls_name history_name : Text) (texts : Request) (class calls history : Text) → AreAlike (Replay class_name calls_name history_name) texts → class ∷ calls ∷ history ∷ [] ≡ texts_of texts → Replay class calls history ≡ texts
three_of_replay class_name calls_name history_name texts class calls history (BothReplay c k h class' calls' history') e = cc

pub one_of_graph : (class_name : Text) (texts : Request) (class : Text) → AreAlike (Graph class_name) texts → class ∷ [] ≡ texts_of texts → Graph class ≡ texts
one_of_graph class_name texts class (BothGraph c class') e = cc
