-- Passes that were taken from the row of a new channel's passes, and came back to it.
use Rattle.std.proofs.Common.{◌≡◌, ◌<◌, ℕ, List, [], ◌∷◌, ◌++◌, subst, sym}
use Rattle.atomic_table.specs.Seated.{TableId}
use Rattle.channel_model.specs.Setting.{Setting}
use Rattle.shared_channel.specs.Finishing.{AreAllPasses}
use Rattle.shared_channel.specs.Making.{IsNewChannel}
use Rattle.shared_channel.specs.Passes.{PassView}
use Rattle.shared_channel.specs.Settling.{AreSettled}
use Rattle.shared_channel.specs.Staying.{AllStaySettled, StaysSettled}
use Rattle.shared_channel.proofs.StayLemmas.{all_stay_more, all_stayed}

-- of a row the last pass was taken and came back, and those before it stayed settled too
pub one_back : {olds : List PassView} {old new : PassView} (rest news : List PassView) → olds ≡ rest ++ old ∷ [] → AllStaySettled rest news → StaysSettled old new → AllStaySettled olds (news ++ new ∷ [])
one_back {olds} {old} {new} rest news taken others work = subst (λ passes. AllStaySettled passes (news ++ new ∷ [])) (sym taken) (all_stay_more rest news old new others work)

-- where all of them are back, the channel may be finished
pub may_finish : {lock : TableId} {setting : Setting} {count : ℕ} {olds : List PassView} (news : List PassView) → IsNewChannel lock setting count olds → 0 < count → AllStaySettled olds news → AreAllPasses lock news × AreSettled news
may_finish {lock} {setting} {count} {olds} news made some work = all_stayed lock setting count olds news made some work
