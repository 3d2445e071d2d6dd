mod Names
mod Walking
