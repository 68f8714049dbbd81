mod BackLaws
mod ItemLaws
mod ShownLaws
mod SlotLaws
