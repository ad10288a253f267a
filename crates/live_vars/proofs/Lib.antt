mod Lists
mod Noting
mod Rising
mod Walking
mod Methods
mod Measure
