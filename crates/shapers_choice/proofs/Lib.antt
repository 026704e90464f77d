mod ChoiceRows
mod OwnScripts
