-- `requirement::room_for` meets its contract. Assumes nothing.
use Rattle.requirement.proofs.RoomLaws.{short-words, short-slots, enough}
use Rattle.requirement.proofs.room_for.Goals as goal

pub returns-then-room-words : goal.returns-then-room-words
returns-then-room-words c = let a = c.args in short-words a.words a.room a.slots a.recorded c.if-room-words.true

pub returns-then-recorded-slots : goal.returns-then-recorded-slots
returns-then-recorded-slots c = short-slots _ _ _ _ c.if-room-words.false c.if-recorded-slots.true

pub returns : goal.returns
returns c = enough _ _ _ _ c.if-room-words.false c.if-recorded-slots.false
