-- The values of a line that can be read are in their ranges.
use Rattle.std.proofs.Common.{◌≡◌, ◌≤◌, ℕ, Bool, List, subst}
use Rattle.iot_schedule.specs.Ranges.{IsStep}
use Rattle.iot_schedule.specs.declared.types.Line.{Line}
use Rattle.iot_schedule.specs.declared.types.Line.TheVariants as line
use Rattle.sgp_values.specs.Ranges.{IsEimId}
use Rattle.small_card.specs.Ranges.{IsBody, IsCommand, IsNumber, greatest_counter}
use Rattle.small_card.specs.declared.types.Body.{Body}
use Rattle.small_card.specs.declared.types.Command.TheVariants as command

pub initial_range : (l : Line) (id address key : List ℕ) → l ≡ line.Initial id address key → IsStep l → IsCommand (command.Initial id address key)
unfolding IsStep IsCommand
initial_range l id address key is step = subst (λ (x : Line). IsStep x) is step

pub bind_association : (l : Line) (id : List ℕ) (association last : ℕ) → l ≡ line.Bind id association last → IsStep l → IsNumber association
unfolding IsStep
bind_association l id association last is step = let k : IsEimId id × IsNumber association × (last ≤ greatest_counter) = subst (λ (x : Line). IsStep x) is step in k.1

pub bind_last : (l : Line) (id : List ℕ) (association last : ℕ) → l ≡ line.Bind id association last → IsStep l → last ≤ greatest_counter
unfolding IsStep
bind_last l id association last is step = let k : IsEimId id × IsNumber association × (last ≤ greatest_counter) = subst (λ (x : Line). IsStep x) is step in k.2

pub order_range : (l : Line) (id : List ℕ) (body : Body) → l ≡ line.Order id body → IsStep l → IsBody body
unfolding IsStep
order_range l id body is step = let k : IsEimId id × IsBody body = subst (λ (x : Line). IsStep x) is step in k.1

pub load_range : (l : Line) (good : Bool) (bytes : List ℕ) → l ≡ line.Load good bytes → IsStep l → IsCommand (command.Load good bytes)
unfolding IsStep IsCommand
load_range l good bytes is step = subst (λ (x : Line). IsStep x) is step
