-- How what a parse reads of a command grows, in plain variables.
use Rattle.std.proofs.Common.{◌≡◌, ◌∙◌, ◌||◌, ◌<◌, ◌≤◌, ◌+◌, ℕ, Bool, List, length, drop, get_or, sym, Result, ap, ap₂}
use Rattle.std.specs.Prelude.{IfOk}
use Rattle.std.proofs.lemmas.List.{at_drop_all, at_drop_more}
use Rattle.clap.specs.Words.{AddsArg, AddsSubcommand, App, Rule, with_rule, with_subcommand}
use Rattle.clap.specs.declared.builder.arg.Arg.{Arg}
use Rattle.clap.specs.declared.builder.command.Command.{Command}
use Rattle.ym_words.specs.CommandLine.{HasApp, HasRule, part_app, with_parts, with_words, word_rule}
use Rattle.ym_words.specs.declared.words.Word.{Word}
use Rattle.ym_words.specs.declared.parts.Part.{Part}

pub with_arg : {old new : Command} {a : Arg} {app : App} {r : Rule} → AddsArg old a new
    → HasApp old app → HasRule a r → HasApp new (with_rule app r)
with_arg adds old_is arg_is = record {
  app_is = adds.shape arg_is.local ∙ ap₂ with_rule old_is.app_is arg_is.rule;
  local = adds.globals ∙ ap₂ (λ (x y : Bool). x || y) old_is.local arg_is.local;
}

-- a command that has the words of a list but for the rest
pub record Grown (c : Command) (rest all : List Word) (start : App) : Type 0 where
  pub now : App
  pub has : HasApp c now
  pub same : with_words now rest ≡ with_words start all

pub with_next : {old new : Command} {a : Arg} {start : App} (words : List Word) (i : ℕ) (d : Word)
    → i < length words → AddsArg old a new → HasRule a (word_rule (get_or words i d))
    → Grown old (drop i words) words start → Grown new (drop (i + 1) words) words start
with_next words i d below adds arg_is g = record {
  now = with_rule g.now (word_rule (get_or words i d));
  has = with_arg adds g.has arg_is;
  same = sym (at_drop_more (with_words g.now) words i d below) ∙ g.same;
}

pub with_all : {c : Command} {start : App} (words : List Word) (i : ℕ) → length words ≤ i
    → Grown c (drop i words) words start → HasApp c (with_words start words)
with_all words i above g = record {
  app_is = g.has.app_is ∙ (sym (at_drop_all (with_words g.now) words i above) ∙ g.same);
  local = g.has.local;
}

pub with_sub : {old sub new : Command} {app inner : App} → AddsSubcommand old sub new
    → HasApp old app → HasApp sub inner → HasApp new (with_subcommand app inner.top)
with_sub adds old_is sub_is = record {
  app_is = adds.shape sub_is.local
      ∙ ap₂ with_subcommand old_is.app_is (ap (λ (a : App). a.top) sub_is.app_is);
  local = adds.globals ∙ ap₂ (λ (x y : Bool). x || y) old_is.local sub_is.local;
}

-- the same of the parts of a list
pub record Parted (c : Command) (rest all : List Part) (start : App) : Type 0 where
  pub now : App
  pub has : HasApp c now
  pub same : with_parts now rest ≡ with_parts start all

pub with_next_part : {old made new : Command} {start : App} (parts : List Part) (i : ℕ) (d : Part)
    → i < length parts → AddsSubcommand old made new → HasApp made (part_app (get_or parts i d))
    → Parted old (drop i parts) parts start → Parted new (drop (i + 1) parts) parts start
with_next_part parts i d below adds made_is g = record {
  now = with_subcommand g.now (part_app (get_or parts i d)).top;
  has = with_sub adds g.has made_is;
  same = sym (at_drop_more (with_parts g.now) parts i d below) ∙ g.same;
}

pub with_all_parts : {c : Command} {start : App} (parts : List Part) (i : ℕ) → length parts ≤ i
    → Parted c (drop i parts) parts start → HasApp c (with_parts start parts)
with_all_parts parts i above g = record {
  app_is = g.has.app_is ∙ (sym (at_drop_all (with_parts g.now) parts i above) ∙ g.same);
  local = g.has.local;
}

pub of_same_app : {E : Type 0} (r : Result Command E) (a b : App) → a ≡ b
    → IfOk r (λ c. HasApp c a) → IfOk r (λ c. HasApp c b)
of_same_app r a b same has = rw same at has
