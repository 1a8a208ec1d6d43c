-- A text that needs memory, as what the line says.
use Rattle.std.proofs.Common.{◌≡◌, ℕ, List, ◌++◌, length, Result, Ok, Err, sym, subst}
use Rattle.std.specs.Prelude.{OnOk}
use Rattle.iot_bytes.specs.declared.memory.NoMemory.{NoMemory}
use Rattle.esipa_codec.specs.declared.messages.Post.{Post}
use Rattle.small_world.specs.Texts.{also_sent, pushed_text}
use Rattle.iot_world.specs.Asking.{Says, SaysPushed}
use Rattle.iot_world.specs.Carrying.{SaysAlso}
use Rattle.iot_world.specs.Halting.{halting}
use Rattle.iot_world.specs.declared.ends.Halt.{Halt}

-- a word
pub halted : (text before out : List ℕ) (put : Result (Unit {0}) NoMemory) (r : Result (Unit {0}) Halt) → r ≡ halting put → OnOk put (out ≡ before ++ text) → Says text before out r
halted text before out (Ok done) r is says = subst (λ (x : Result (Unit {0}) Halt). Says text before out x) (sym is) says
halted text before out (Err e) r is says = subst (λ (x : Result (Unit {0}) Halt). Says text before out x) (sym is) tt

-- the places of what was sent
pub halted_pushed : (first sent : ℕ) (before out : List ℕ) (put : Result (Unit {0}) NoMemory) (r : Result (Unit {0}) Halt) → r ≡ halting put → ((posts : List Post) → length posts ≡ sent → OnOk put (out ≡ before ++ pushed_text first posts)) → SaysPushed first sent before out r
halted_pushed first sent before out (Ok done) r is says = subst (λ (x : Result (Unit {0}) Halt). SaysPushed first sent before out x) (sym is) says
halted_pushed first sent before out (Err e) r is says = subst (λ (x : Result (Unit {0}) Halt). SaysPushed first sent before out x) (sym is) tt

pub halted_also : (first sent : ℕ) (before out : List ℕ) (put : Result (Unit {0}) NoMemory) (r : Result (Unit {0}) Halt) → r ≡ halting put → ((posts : List Post) → length posts ≡ sent → OnOk put (out ≡ before ++ also_sent first posts)) → SaysAlso first sent before out r
halted_also first sent before out (Ok done) r is says = subst (λ (x : Result (Unit {0}) Halt). SaysAlso first sent before out x) (sym is) says
halted_also first sent before out (Err e) r is says = subst (λ (x : Result (Unit {0}) Halt). SaysAlso first sent before out x) (sym is) tt
